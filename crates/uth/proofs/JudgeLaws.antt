-- The laws of the walk over segments: each way out of a segment by the tests that lead there, what an answered segment is, and one step of the walk.
-- By the cases of each test. Assumes nothing.
use mathlib.Core.Path.{◌≡◌, refl}
use mathlib.Core.Bool.{Bool, true, false, cond}
use mathlib.Core.List.{List}
use Prim.Native.Nat.{ℕ, zero, suc, ◌+◌, ◌-◌, ◌≤◌, ◌<◌}
use native.Mathlib.Omega.{arith}
use borrow.Author.Tests.{le-leb, lt-leb, leb-true}
use lib.Dec.{leb}
use lib.IntN.{pos, nat_abs}
use lib.ListN.{length}
use lib.Signed.{lt_z}
use Rattle.calendar.specs.Said.{Said, answer, refusal}
use Rattle.uth.specs.Layout.{segments, first_at, line, column, blocks, end_at, is_grid, is_some}
use Rattle.uth.specs.Judge.{unless, cut, onward, segment_at, judge_from, judge_of}
use Rattle.uth.specs.Tiles.{Segment}

-- a test that was passed on the way to an answer
pub unless_answer : {A : Type 0} (b : Bool) (n p : ℕ) (rest : Said A) (x : A) → unless b n p rest ≡ answer x → (b ≡ true) × (rest ≡ answer x)
unless_answer true n p rest x e = (refl, e)
unless_answer false n p rest x e = let z : ◌≡◌ {A = ℕ} 0 1 = cc in absurd (omega arith)

-- ---- the ways out of a segment
module _ (a : List ℕ) (p : ℕ) where
  pub cut_line : length a < p + 4 → segment_at a p ≡ refusal 34 (length a)
  unfolding segment_at
  cut_line h = simp (lt-leb (p + 4) (length a) h)

  module _ (f : p + 4 ≤ length a) where
    pub line_out : is_grid (line a p) ≡ false → segment_at a p ≡ refusal 32 p
    unfolding segment_at
    line_out e = simp (le-leb (p + 4) (length a) f, e)

    module _ (g : is_grid (line a p) ≡ true) where
      pub cut_column : length a < p + 8 → segment_at a p ≡ refusal 34 (length a)
      unfolding segment_at
      cut_column h = simp (le-leb (p + 4) (length a) f, g, lt-leb (p + 8) (length a) h)

      module _ (h : p + 8 ≤ length a) where
        pub column_out : is_grid (column a p) ≡ false → segment_at a p ≡ refusal 32 (p + 4)
        unfolding segment_at
        column_out e = simp (le-leb (p + 4) (length a) f, g, le-leb (p + 8) (length a) h, e)

        module _ (k : is_grid (column a p) ≡ true) where
          pub cut_header : length a < p + 36 → segment_at a p ≡ refusal 34 (length a)
          unfolding segment_at
          cut_header l = simp (le-leb (p + 4) (length a) f, g, le-leb (p + 8) (length a) h, k, lt-leb (p + 36) (length a) l)

          module _ (l : p + 36 ≤ length a) where
            pub none_out : is_some (blocks a p) ≡ false → segment_at a p ≡ refusal 33 (p + 32)
            unfolding segment_at
            none_out e = simp (le-leb (p + 4) (length a) f, g, le-leb (p + 8) (length a) h, k, le-leb (p + 36) (length a) l, e)

            module _ (s : is_some (blocks a p) ≡ true) where
              pub cut_block : length a < end_at p (nat_abs (blocks a p)) → segment_at a p ≡ refusal 34 (length a)
              unfolding segment_at
              cut_block e = simp (le-leb (p + 4) (length a) f, g, le-leb (p + 8) (length a) h, k, le-leb (p + 36) (length a) l, s, lt-leb (end_at p (nat_abs (blocks a p))) (length a) e)

              pub whole : end_at p (nat_abs (blocks a p)) ≤ length a → segment_at a p ≡ answer (nat_abs (blocks a p))
              unfolding segment_at
              whole e = simp (le-leb (p + 4) (length a) f, g, le-leb (p + 8) (length a) h, k, le-leb (p + 36) (length a) l, s, le-leb (end_at p (nat_abs (blocks a p))) (length a) e)

-- ---- an answered segment
pub record Answered (a : List ℕ) (p k : ℕ) : Type 0 where
  pub segment : Segment a p k
  pub within : end_at p k ≤ length a

pub answered : (a : List ℕ) (p k : ℕ) → segment_at a p ≡ answer k → Answered a p k
unfolding segment_at
answered a p k e =
    let n = nat_abs (blocks a p) in
    let len = length a in
    let end = cut a (end_at p n) (answer n) in
    let some = unless (is_some (blocks a p)) 33 (p + 32) end in
    let col = unless (is_grid (column a p)) 32 (p + 4) (cut a (p + 36) some) in
    let lin = unless (is_grid (line a p)) 32 p (cut a (p + 8) col) in
    let x1 = unless_answer (leb (p + 4) len) 34 len lin k e in
    let x2 = unless_answer (is_grid (line a p)) 32 p (cut a (p + 8) col) k x1.1 in
    let x3 = unless_answer (leb (p + 8) len) 34 len col k x2.1 in
    let x4 = unless_answer (is_grid (column a p)) 32 (p + 4) (cut a (p + 36) some) k x3.1 in
    let x5 = unless_answer (leb (p + 36) len) 34 len some k x4.1 in
    let x6 = unless_answer (is_some (blocks a p)) 33 (p + 32) end k x5.1 in
    let x7 = unless_answer (leb (end_at p n) len) 34 len (answer n) k x6.1 in
    let q : n ≡ k = same n k x7.1 in
    record {
      segment = record { lined = x2.0; columned = x4.0; some = x6.0; counted = q };
      within = omega (arith, leb-true (end_at p n) len x7.0);
    }
  where
    same : (n k : ℕ) → answer n ≡ answer k → n ≡ k
    same n k e = cc

-- ---- the walk, one step
module _ (a : List ℕ) (m p n : ℕ) (h : 0 < m) where
  pub steps : (k : ℕ) → segment_at a p ≡ answer k → judge_from a m p n ≡ judge_from a (m - 1) (end_at p k) (n + k)
  unfolding judge_from
  steps k e = go m h
    where
      go : (m : ℕ) → 0 < m → judge_from a m p n ≡ judge_from a (m - 1) (end_at p k) (n + k)
      go zero h = absurd (omega arith)
      go (suc m) h = let z : suc m - 1 ≡ m = omega arith in rw (e, z)

  pub stops : (x y : ℕ) → segment_at a p ≡ refusal x y → judge_from a m p n ≡ refusal x y
  unfolding judge_from
  stops x y e = go m h
    where
      go : (m : ℕ) → 0 < m → judge_from a m p n ≡ refusal x y
      go zero h = absurd (omega arith)
      go (suc m) h = rw e

pub ends : (a : List ℕ) (m p n : ℕ) → m ≡ 0 → length a ≤ p → judge_from a m p n ≡ answer n
unfolding judge_from
ends a zero p n e h = simp (le-leb (length a) p h)
ends a (suc m) p n e h = absurd (omega arith)

pub leaves : (a : List ℕ) (m p n : ℕ) → m ≡ 0 → p < length a → judge_from a m p n ≡ refusal 35 p
unfolding judge_from
leaves a zero p n e h = simp (lt-leb (length a) p h)
leaves a (suc m) p n e h = absurd (omega arith)

-- a walk that ends with an answer, taken apart
pub record More (a : List ℕ) (m p n c : ℕ) : Type 0 where
  pub k : ℕ
  pub first : segment_at a p ≡ answer k
  pub rest : judge_from a m (end_at p k) (n + k) ≡ answer c

pub more_of : (a : List ℕ) (m p n c : ℕ) → judge_from a (suc m) p n ≡ answer c → More a m p n c
unfolding judge_from
more_of a m p n c e = go (segment_at a p) refl e
  where
    go : (x : Said ℕ) → segment_at a p ≡ x → onward x (λ (k : ℕ). judge_from a m (end_at p k) (n + k)) ≡ answer c → More a m p n c
    go (answer k) q e = record { k = k; first = q; rest = e }
    go (refusal x y) q e = let z : ◌≡◌ {A = ℕ} 0 1 = cc in absurd (omega arith)

pub last_of : (a : List ℕ) (p n c : ℕ) → judge_from a zero p n ≡ answer c → (length a ≤ p) × (n ≡ c)
unfolding judge_from
last_of a p n c e = let x = unless_answer (leb (length a) p) 35 p (answer n) c e in (leb-true (length a) p x.0, same n c x.1)
  where
    same : (n c : ℕ) → answer n ≡ answer c → n ≡ c
    same n c e = cc

pub more_at : (a : List ℕ) (m p n c : ℕ) → 0 < m → judge_from a m p n ≡ answer c → More a (m - 1) p n c
more_at a zero p n c h e = absurd (omega arith)
more_at a (suc m) p n c h e = let z : suc m - 1 ≡ m = omega arith in rw z (more_of a m p n c e)

-- blocks are only added
pub grows : (a : List ℕ) (m p n c : ℕ) → judge_from a m p n ≡ answer c → n ≤ c
grows a zero p n c e = omega (arith, (last_of a p n c e).1)
grows a (suc m) p n c e = let x = more_of a m p n c e in omega (arith, grows a m (end_at p x.k) (n + x.k) c x.rest)

-- ---- the file that is read
pub record Opened (a : List ℕ) (c : ℕ) : Type 0 where
  pub headed : first_at ≤ length a
  pub natural : lt_z (segments a) (pos 0) ≡ false
  pub walked : judge_from a (nat_abs (segments a)) first_at 0 ≡ answer c

natural_of : (a : List ℕ) (c : ℕ) → first_at ≤ length a → (b : Bool) → lt_z (segments a) (pos 0) ≡ b → cond b (refusal 31 614) (judge_from a (nat_abs (segments a)) first_at 0) ≡ answer c → Opened a c
natural_of a c h true t e = let z : ◌≡◌ {A = ℕ} 0 1 = cc in absurd (omega arith)
natural_of a c h false t e = record { headed = h; natural = t; walked = e }

pub opened : (a : List ℕ) (c : ℕ) → judge_of a ≡ answer c → Opened a c
opened a c e =
    let x = unless_answer (leb first_at (length a)) 30 (length a) (cond (lt_z (segments a) (pos 0)) (refusal 31 614) (judge_from a (nat_abs (segments a)) first_at 0)) c e in
    natural_of a c (leb-true first_at (length a) x.0) (lt_z (segments a) (pos 0)) refl x.1

-- ---- the ways out of a file
pub short : (a : List ℕ) → length a < 642 → judge_of a ≡ refusal 30 (length a)
short a h = simp (lt-leb 642 (length a) h)

pub negative : (a : List ℕ) → 642 ≤ length a → lt_z (segments a) (pos 0) ≡ true → judge_of a ≡ refusal 31 614
negative a h e = simp (le-leb 642 (length a) h, e)

pub walks : (a : List ℕ) → 642 ≤ length a → lt_z (segments a) (pos 0) ≡ false → judge_of a ≡ judge_from a (nat_abs (segments a)) 642 0
walks a h e = simp (le-leb 642 (length a) h, e)
