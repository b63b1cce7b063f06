-- How sites lead to one another, and what each row of the table has in common: where it is shown, its number, its place. By induction on the
-- way, head first. Assumes nothing.
use Rattle.std.proofs.Common.{◌≡◌, ℕ, ◌+◌, ◌<◌, ◌≤◌, ◌⊎◌, List, refl, inl, inr, ⊎_elim, le_refl, arith}
use native.Mathlib.Decide.{dec_le, ℕ_discrete}
pub use Rattle.tables.proofs.Passing.{holds}
use Rattle.mphr.specs.Table.{declared}
use Rattle.mphr.proofs.Export as M
use Rattle.judge.specs.Table.{Site, first, class_at, size_at, aim_class, offset_at, Sound, Leads, here, on, next, Target, Wrong, part_left, unknown, misplaced, bad_size, bad_times, surplus, bad_target, points_inside, points_at_other, too_few, row_at, Fault, main, at, too_long, number}

pub leads_le : {a : List ℕ} {x y : Site} → Leads a x y → x.at ≤ y.at
leads_le {x = x} here = le_refl x.at
leads_le (on s l) = omega (arith, leads_le l, s.least)

pub counts : {a : List ℕ} {x y : Site} → Leads a x y → x.count ≤ y.count
counts {x = x} here = le_refl x.count
counts (on s l) = omega (arith, counts l)

pub snoc : {a : List ℕ} {x y : Site} → Leads a x y → Sound a y.at → Leads a x (next a y)
snoc here t = on t here
snoc (on s l) t = on s (snoc l t)

pub trans : {a : List ℕ} {x y z : Site} → Leads a x y → Leads a y z → Leads a x z
trans here m = m
trans (on s l) m = on s (trans l m)

-- what leads further on starts with a sound record
pub goes : {a : List ℕ} {x y : Site} → Leads a x y → x.at < y.at → Sound a x.at × Leads a (next a x) y
goes here h = absurd (omega arith)
goes (on s l) h = (s, l)

pub linear : {a : List ℕ} {x y z : Site} → Leads a x y → Leads a x z → Leads a y z ⊎ Leads a z y
linear here m = inl m
linear (on s l) here = inr (on s l)
linear (on s l) (on t m) = linear l m

-- what leads back leads on
pub met : {a : List ℕ} {x y : Site} → Leads a x y → y.at ≤ x.at → Leads a y x
met here h = here
met (on s l) h = absurd (omega (arith, leads_le l, s.least))

-- of what starts before x's record ends, and not before x, there is x alone
pub near : {a : List ℕ} {x y : Site} → Leads a x y → y.at < x.at + size_at a x.at → y.at ≡ x.at
near here h = refl
near (on s l) h = absurd (omega (arith, leads_le l))

-- a record on the way that starts before another ends no later than that starts
pub ends_by : {a : List ℕ} {q x : Site} → Leads a first q → Leads a first x → q.at < x.at → q.at + size_at a q.at ≤ x.at
ends_by v w h = ⊎_elim (λ l. leads_le (goes l h).1) (λ l. absurd (omega (arith, leads_le l))) (linear v w)

-- ---- what can be decided
-- a part of 20 or more, 27 where the class is 3
implied : {P Q : Type 0} → Dec P → Dec Q → Dec (P → Q)
implied _ (yes q) = yes (λ _. q)
implied (no n) (no m) = yes (λ p. absurd (n p))
implied (yes p) (no m) = no (λ f. m (f p))

pub sound? : (a : List ℕ) (i : ℕ) → Dec (Sound a i)
sound? a i = go (dec_le (i + 20) (declared a)) (dec_le 20 (size_at a i)) (dec_le (i + size_at a i) (declared a)) (implied (ℕ_discrete (class_at a i) 3) (ℕ_discrete (size_at a i) 27))
  where
    go : Dec (i + 20 ≤ declared a) → Dec (20 ≤ size_at a i) → Dec (i + size_at a i ≤ declared a) → Dec (class_at a i ≡ 3 → size_at a i ≡ 27) → Dec (Sound a i)
    go (no n) _ _ _ = no (λ s. n s.room)
    go (yes r) (no n) _ _ = no (λ s. n s.least)
    go (yes r) (yes l) (no n) _ = no (λ s. n s.most)
    go (yes r) (yes l) (yes m) (no n) = no (λ s. n s.ipr)
    go (yes r) (yes l) (yes m) (yes t) = yes (record { room = r; least = l; most = m; ipr = t })

pub target? : (a : List ℕ) (i : ℕ) → Dec (Target a i)
target? a i = go (dec_le 4 (aim_class a i)) (dec_le (aim_class a i) 8) (dec_le (i + 27) (offset_at a i)) (dec_le (offset_at a i + 20) (declared a))
  where
    go : Dec (4 ≤ aim_class a i) → Dec (aim_class a i ≤ 8) → Dec (i + 27 ≤ offset_at a i) → Dec (offset_at a i + 20 ≤ declared a) → Dec (Target a i)
    go (no n) _ _ _ = no (λ t. n t.four)
    go (yes f) (no n) _ _ = no (λ t. n t.eight)
    go (yes f) (yes e) (no n) _ = no (λ t. n t.past)
    go (yes f) (yes e) (yes p) (no n) = no (λ t. n t.within)
    go (yes f) (yes e) (yes p) (yes w) = yes (record { four = f; eight = e; past = p; within = w })

-- ---- of what is wrong at x: it lies in the product or at its end; unless that is 6 or 15 it is shown by the header's end at the soonest; its
-- number; its place
pub record Facts {a : List ℕ} {x : Site} (w : Wrong a x) : Type 0 where
  pub inside : x.at ≤ declared a
  pub ended : x.at ≡ declared a → (row_at w).number ≡ 15
  pub from : x.at ≤ (row_at w).shown
  pub head : x.at + 20 ≤ declared a → x.at + 20 ≤ (row_at w).shown
  pub within : (row_at w).shown ≤ declared a
  pub six : 6 ≤ (row_at w).number
  pub most : (row_at w).number ≤ 15
  pub on_six : (row_at w).number ≡ 6 → (row_at w).place ≡ (row_at w).shown
  pub near : 7 ≤ (row_at w).number → (row_at w).number ≤ 11 → (row_at w).place + 20 ≡ (row_at w).shown
  pub on_last : (row_at w).number ≡ 15 → (row_at w).place ≡ (row_at w).shown

pub facts : {a : List ℕ} {x : Site} (w : Wrong a x) → Facts w
facts (part_left u v) = omega arith
facts (unknown r c) = omega arith
facts (misplaced r c) = omega arith
facts (bad_size r c) = omega arith
facts (bad_times r c) = omega arith
facts (surplus r c) = omega arith
facts (bad_target s o c) = let z = s.ipr o in omega (arith, s.most)
facts (points_inside q p r b u v) = omega arith
facts (points_at_other q p r b e c) = omega arith
facts (too_few e c l u v) = omega arith

-- a fault's number
pub numbers : {a : List ℕ} (f : Fault a) → (1 ≤ number f) × (number f ≤ 16)
numbers (main g) = omega (arith, M.numbers g)
numbers (at _ x _ w) = omega (arith, (facts w).six, (facts w).most)
numbers (too_long _) = omega arith
