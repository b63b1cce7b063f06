-- The table of kinds: one more record that is taken changes the place of its kind alone, and only where it had none; the place of a kind; and how many
-- places are not empty. Assumes nothing.
use Prim.Native.Nat.{ℕ, zero, suc, ◌+◌, ◌-◌, ◌*◌, ◌/◌, ◌%◌, ◌≤◌, ◌<◌}
use native.Mathlib.Decide.{ℕ_discrete}
use native.Mathlib.Omega.{arith}
use mathlib.Core.Path.{◌≡◌, refl, sym, ap, ◌∙◌}
use mathlib.Core.Bool.{Bool, true, false, true≢false, cond, not}
use mathlib.Core.List.{List, [], ◌∷◌}
use borrow.Author.Tests.{eq-eqb, ne_eqb, lt-leb}
use lib.Dec.{eqb}
use lib.ListN.{length, get_or, set, length-set}
use lib.Seq.{get_or-set_same, get_or-set_other}
use Rattle.std.specs.List.{count_by}
use Rattle.std.proofs.lemmas.List.Sums.{sum_by-cons}
use Rattle.meter.specs.Integer.{be_at}
use Rattle.record.specs.Header.{is_group}
use Rattle.demands.specs.Product.{kind}
use Rattle.parts.specs.Kinds.{group_at, kind_at}
use Rattle.parts.proofs.KindLaws.{kind_one}
use Rattle.rewrite.specs.Table.{noted, SlotOf, filled_to}

-- ---- the table with one more record
pub noted_length : (t : List ℕ) (j n : ℕ) → length (noted t j n) ≡ length t
noted_length t j n = go (eqb (get_or t j 0) 0)
  where
    go : (b : Bool) → length (cond b (set t j (suc n)) t) ≡ length t
    go true = length-set t j (suc n)
    go false = refl

pub noted_place : (t : List ℕ) (n k p j : ℕ) → length t ≡ 20480 → p < 20480 → kind_at p ≡ k → j < 20480 → get_or (noted t p n) j 0 ≡ cond (eqb (get_or t j 0) 0) (cond (eqb k (kind_at j)) (suc n) 0) (get_or t j 0)
noted_place t n k p j l h e u = go (ℕ_discrete j p) (ℕ_discrete (get_or t p 0) 0)
  where
    kept : (x : ℕ) → x ≡ cond (eqb x 0) 0 x
    kept x = keep (ℕ_discrete x 0)
      where
        keep : Dec (x ≡ 0) → x ≡ cond (eqb x 0) 0 x
        keep (yes z) = rw (eq-eqb x 0 z) z
        keep (no d) = rw (ne_eqb x 0 d)

    other : get_or (noted t p n) j 0 ≡ get_or t j 0 → (j ≡ p → ⊥) → get_or (noted t p n) j 0 ≡ cond (eqb (get_or t j 0) 0) (cond (eqb k (kind_at j)) (suc n) 0) (get_or t j 0)
    other g d =
        let c : eqb k (kind_at j) ≡ false = ne_eqb k (kind_at j) (λ z. d (sym (kind_one p j h u (e ∙ z)))) in
        g ∙ kept (get_or t j 0) ∙ ap (λ (b : Bool). cond (eqb (get_or t j 0) 0) (cond b (suc n) 0) (get_or t j 0)) (sym c)

    go : Dec (j ≡ p) → Dec (get_or t p 0 ≡ 0) → get_or (noted t p n) j 0 ≡ cond (eqb (get_or t j 0) 0) (cond (eqb k (kind_at j)) (suc n) 0) (get_or t j 0)
    go (yes d) (yes z) = rw (d, eq-eqb (get_or t p 0) 0 z, eq-eqb k (kind_at p) (sym e)) (get_or-set_same t p (suc n) 0 (omega arith))
    go (yes d) (no z) = rw (d, ne_eqb (get_or t p 0) 0 z)
    go (no d) (yes z) = other (ap (λ (b : Bool). get_or (cond b (set t p (suc n)) t) j 0) (eq-eqb (get_or t p 0) 0 z) ∙ get_or-set_other t p j (suc n) 0 d) d
    go (no d) (no z) = other (ap (λ (b : Bool). get_or (cond b (set t p (suc n)) t) j 0) (ne_eqb (get_or t p 0) 0 z)) d

-- ---- the place of a kind
pub slot_is : (c x s g j : ℕ) → 4 ≤ c → c ≤ 8 → x < 16 → s < 256 → group_at x ≡ g → j ≡ ((c - 4) * 16 + x) * 256 + s → SlotOf c g s j
unfolding kind_at
slot_is c x s g j l h u v e d = record { below = omega arith; same = rw (q, r, w, e) (omega arith) }
  where
    q : j / 4096 ≡ c - 4
    q = omega arith

    r : j / 256 % 16 ≡ x
    r = omega arith

    w : j % 256 ≡ s
    w = omega arith

pub high_group : (g : ℕ) → is_group g ≡ true → 13 < g → (g ≡ 15 → ⊥) → g ≡ 99
unfolding is_group
high_group g e h d = go (ℕ_discrete g 99)
  where
    go : Dec (g ≡ 99) → g ≡ 99
    go (yes z) = z
    go (no z) = absurd (true≢false (sym e ∙ rw (lt-leb g 13 h, ne_eqb g 15 d, ne_eqb g 99 z)))

pub at_fifteen : group_at 14 ≡ 15
unfolding group_at
at_fifteen = refl

pub at_last : group_at 15 ≡ 99
unfolding group_at
at_last = refl

pub kind_of : (a : List ℕ) (i : ℕ) → kind a i ≡ (get_or a i 0 * 256 + get_or a (i + 1) 0) * 256 + get_or a (i + 2) 0
unfolding be_at
kind_of a i = let e : i + 0 ≡ i = omega arith in rw e (omega arith)

-- ---- how many places are not empty
first : (x : ℕ) (t : List ℕ) (n : ℕ) → filled_to (x ∷ t) (suc n) ≡ cond (eqb x 0) 0 1 + filled_to t n
unfolding filled_to
first x t zero = omega arith
first x t (suc n) = omega (arith, first x t n)

pub filled_none : (t : List ℕ) → filled_to t 0 ≡ 0
unfolding filled_to
filled_none t = refl

pub filled_skip : (t : List ℕ) (j : ℕ) → get_or t j 0 ≡ 0 → filled_to t (j + 1) ≡ filled_to t j
unfolding filled_to
filled_skip t j e = let z : j + 1 ≡ suc j = omega arith in rw (z, eq-eqb (get_or t j 0) 0 e) (omega arith)

pub filled_more : (t : List ℕ) (j : ℕ) → (get_or t j 0 ≡ 0 → ⊥) → filled_to t (j + 1) ≡ filled_to t j + 1
unfolding filled_to
filled_more t j d = let z : j + 1 ≡ suc j = omega arith in rw (z, ne_eqb (get_or t j 0) 0 d)

pub filled_is : (t : List ℕ) → count_by (λ (x : ℕ). not (eqb x 0)) t ≡ filled_to t (length t)
filled_is [] = sym (filled_none [])
filled_is (x ∷ t) =
    let p = λ (y : ℕ). not (eqb y 0) in
    let s : count_by p (x ∷ t) ≡ cond (not (eqb x 0)) 1 0 + count_by p t = sum_by-cons (λ (y : ℕ). cond (not (eqb y 0)) 1 0) x t in
    s ∙ ap (λ (n : ℕ). n + count_by p t) (go (eqb x 0)) ∙ ap (λ (n : ℕ). cond (eqb x 0) 0 1 + n) (filled_is t) ∙ sym (first x t (length t))
  where
    go : (b : Bool) → ◌≡◌ {A = ℕ} (cond (not b) 1 0) (cond b 0 1)
    go true = refl
    go false = refl
