-- A LONGER FILE: what is refused with 31, 32 or 33 is refused the same in every file that begins with it; only 30, 34 and 35 speak of where the file
-- ends. A fault of a field rests on bytes that are there. By induction on the segments. Assumes nothing.
use mathlib.Core.Path.{◌≡◌, refl, sym, ap, ◌∙◌}
use mathlib.Core.Bool.{Bool, true, false, cond}
use mathlib.Core.List.{List, ◌++◌}
use mathlib.Core.Logic.{◌⊎◌, inl, inr}
use Prim.Native.Nat.{ℕ, zero, suc, ◌+◌, ◌≤◌}
use native.Mathlib.Omega.{arith}
use borrow.Author.Tests.{leb-true}
use lib.Dec.{leb}
use lib.IntN.{ℤ, pos, nat_abs}
use lib.ListN.{length, length-append, get_or-append}
use lib.Signed.{lt_z}
use Rattle.calendar.specs.Said.{Said, answer, refusal}
use Rattle.meter.specs.Integer.{be_at, twos, half_of}
use Rattle.uth.specs.Layout.{field_at, segments, first_at, line, column, blocks, end_at, is_grid, is_some}
use Rattle.uth.specs.Judge.{unless, cut, onward, segment_at, judge_from, judge_of}
use Rattle.uth.proofs.JudgeLaws.{answered, line_out, column_out, none_out, whole, negative, walks}

be_longer : (a t : List ℕ) (at n : ℕ) → at + n ≤ length a → be_at (a ++ t) at n ≡ be_at a at n
unfolding be_at
be_longer a t at zero h = refl
be_longer a t at (suc n) h = rw (be_longer a t at n (omega arith), get_or-append a t 0 (at + n) (omega arith))

module _ (a t : List ℕ) where
  field_longer : (at : ℕ) → at + 4 ≤ length a → field_at (a ++ t) at ≡ field_at a at
  field_longer at h = ap (twos (half_of 4)) (be_longer a t at 4 h)

  -- an answered segment is answered the same
  answered_longer : (p k : ℕ) → segment_at a p ≡ answer k → segment_at (a ++ t) p ≡ answer k
  answered_longer p k e =
      let x = answered a p k e in
      let l = length-append a t in
      let c : nat_abs (blocks (a ++ t) p) ≡ k = ap nat_abs (field_longer (p + 32) (omega (arith, x.within))) ∙ x.segment.counted in
      whole (a ++ t) p (omega (arith, x.within)) (ap is_grid (field_longer p (omega (arith, x.within))) ∙ x.segment.lined)
      (omega (arith, x.within)) (ap is_grid (field_longer (p + 4) (omega (arith, x.within))) ∙ x.segment.columned)
      (omega (arith, x.within)) (ap is_some (field_longer (p + 32) (omega (arith, x.within))) ∙ x.segment.some)
      (omega (arith, x.within, c)) ∙ ap answer c

-- a test that was failed, or passed, on the way to a refusal
unless_refusal : {A : Type 0} (b : Bool) (n p : ℕ) (rest : Said A) (x y : ℕ) → unless b n p rest ≡ refusal x y → ((b ≡ true) × (rest ≡ refusal x y)) ⊎ ((b ≡ false) × (n ≡ x) × (p ≡ y))
unless_refusal true n p rest x y e = inl (refl, e)
unless_refusal false n p rest x y e = inr (refl, (cc), (cc))

-- ---- a refused segment: cut, or refused the same
abbrev Stays : List ℕ → List ℕ → ℕ → ℕ → ℕ → Type 0
Stays a t p x y = (x ≡ 34) ⊎ (segment_at (a ++ t) p ≡ refusal x y)

module _ (a t : List ℕ) (p x y : ℕ) where
  longer : (e : ℕ) → leb e (length a) ≡ true → e ≤ length (a ++ t)
  longer e h = omega (arith, leb-true e (length a) h, length-append a t)

  at_fault : {u v : ℕ} → segment_at (a ++ t) p ≡ refusal u v → u ≡ x → v ≡ y → Stays a t p x y
  at_fault e f g = inr (cc)

  module _ (h4 : leb (p + 4) (length a) ≡ true) where
    at_line : is_grid (line a p) ≡ false → 32 ≡ x → p ≡ y → Stays a t p x y
    at_line g e f = at_fault (line_out (a ++ t) p (longer (p + 4) h4) (ap is_grid (field_longer a t p (leb-true (p + 4) (length a) h4)) ∙ g)) e f

    module _ (l : is_grid (line a p) ≡ true) (h8 : leb (p + 8) (length a) ≡ true) where
      eight : p + 4 + 4 ≤ length a
      eight = omega (arith, leb-true (p + 8) (length a) h8)

      lined : is_grid (line (a ++ t) p) ≡ true
      lined = ap is_grid (field_longer a t p (leb-true (p + 4) (length a) h4)) ∙ l

      at_column : is_grid (column a p) ≡ false → 32 ≡ x → p + 4 ≡ y → Stays a t p x y
      at_column g e f = at_fault (column_out (a ++ t) p (longer (p + 4) h4) lined (longer (p + 8) h8) (ap is_grid (field_longer a t (p + 4) eight) ∙ g)) e f

      module _ (c : is_grid (column a p) ≡ true) (h36 : leb (p + 36) (length a) ≡ true) where
        at_blocks : is_some (blocks a p) ≡ false → 33 ≡ x → p + 32 ≡ y → Stays a t p x y
        at_blocks g e f =
            let w : p + 32 + 4 ≤ length a = omega (arith, leb-true (p + 36) (length a) h36) in
            at_fault (none_out (a ++ t) p (longer (p + 4) h4) lined (longer (p + 8) h8) (ap is_grid (field_longer a t (p + 4) eight) ∙ c) (longer (p + 36) h36) (ap is_some (field_longer a t (p + 32) w) ∙ g)) e f

segment_longer : (a t : List ℕ) (p x y : ℕ) → segment_at a p ≡ refusal x y → Stays a t p x y
unfolding segment_at
segment_longer a t p x y e = first (unless_refusal (leb (p + 4) len) 34 len lin x y e)
  where
    len : ℕ
    len = length a

    k : ℕ
    k = nat_abs (blocks a p)

    end : Said ℕ
    end = cut a (end_at p k) (answer k)

    some : Said ℕ
    some = unless (is_some (blocks a p)) 33 (p + 32) end

    col : Said ℕ
    col = unless (is_grid (column a p)) 32 (p + 4) (cut a (p + 36) some)

    lin : Said ℕ
    lin = unless (is_grid (line a p)) 32 p (cut a (p + 8) col)

    over : {b : Bool} {q : ℕ} → ((b ≡ true) × (answer k ≡ refusal x y)) ⊎ ((b ≡ false) × (34 ≡ x) × (q ≡ y)) → Stays a t p x y
    over (inl z) = let o : ◌≡◌ {A = ℕ} 0 1 = cc z.1 in absurd (omega arith)
    over (inr z) = inl (sym z.1)

    first : ((leb (p + 4) len ≡ true) × (lin ≡ refusal x y)) ⊎ ((leb (p + 4) len ≡ false) × (34 ≡ x) × (len ≡ y)) → Stays a t p x y
    first (inr z) = inl (sym z.1)
    first (inl (h4, e)) = second (unless_refusal (is_grid (line a p)) 32 p (cut a (p + 8) col) x y e)
      where
        second : ((is_grid (line a p) ≡ true) × (cut a (p + 8) col ≡ refusal x y)) ⊎ ((is_grid (line a p) ≡ false) × (32 ≡ x) × (p ≡ y)) → Stays a t p x y
        second (inr z) = at_line a t p x y h4 z.0 z.1 z.2
        second (inl (l, e)) = third (unless_refusal (leb (p + 8) len) 34 len col x y e)
          where
            third : ((leb (p + 8) len ≡ true) × (col ≡ refusal x y)) ⊎ ((leb (p + 8) len ≡ false) × (34 ≡ x) × (len ≡ y)) → Stays a t p x y
            third (inr z) = inl (sym z.1)
            third (inl (h8, e)) = fourth (unless_refusal (is_grid (column a p)) 32 (p + 4) (cut a (p + 36) some) x y e)
              where
                fourth : ((is_grid (column a p) ≡ true) × (cut a (p + 36) some ≡ refusal x y)) ⊎ ((is_grid (column a p) ≡ false) × (32 ≡ x) × (p + 4 ≡ y)) → Stays a t p x y
                fourth (inr z) = at_column a t p x y h4 l h8 z.0 z.1 z.2
                fourth (inl (c, e)) = fifth (unless_refusal (leb (p + 36) len) 34 len some x y e)
                  where
                    fifth : ((leb (p + 36) len ≡ true) × (some ≡ refusal x y)) ⊎ ((leb (p + 36) len ≡ false) × (34 ≡ x) × (len ≡ y)) → Stays a t p x y
                    fifth (inr z) = inl (sym z.1)
                    fifth (inl (h36, e)) = sixth (unless_refusal (is_some (blocks a p)) 33 (p + 32) end x y e)
                      where
                        sixth : ((is_some (blocks a p) ≡ true) × (end ≡ refusal x y)) ⊎ ((is_some (blocks a p) ≡ false) × (33 ≡ x) × (p + 32 ≡ y)) → Stays a t p x y
                        sixth (inr z) = at_blocks a t p x y h4 l h8 c h36 z.0 z.1 z.2
                        sixth (inl (s, e)) = over (unless_refusal (leb (end_at p k) len) 34 len (answer k) x y e)

-- ---- a refused walk, and a refused file
walk_longer : (a t : List ℕ) (m p n x y : ℕ) → judge_from a m p n ≡ refusal x y → (x ≡ 34) ⊎ ((x ≡ 35) ⊎ (judge_from (a ++ t) m p n ≡ refusal x y))
unfolding judge_from
walk_longer a t zero p n x y e = go (unless_refusal (leb (length a) p) 35 p (answer n) x y e)
  where
    go : ((leb (length a) p ≡ true) × (answer n ≡ refusal x y)) ⊎ ((leb (length a) p ≡ false) × (35 ≡ x) × (p ≡ y)) → (x ≡ 34) ⊎ ((x ≡ 35) ⊎ (unless (leb (length (a ++ t)) p) 35 p (answer n) ≡ refusal x y))
    go (inl z) = let o : ◌≡◌ {A = ℕ} 0 1 = cc z.1 in absurd (omega arith)
    go (inr z) = inr (inl (sym z.1))
walk_longer a t (suc m) p n x y e = go (λ k. walk_longer a t m (end_at p k) (n + k) x y) (segment_at a p) refl e
  where
    stop : Stays a t p x y → (x ≡ 34) ⊎ ((x ≡ 35) ⊎ (onward (segment_at (a ++ t) p) (λ (k : ℕ). judge_from (a ++ t) m (end_at p k) (n + k)) ≡ refusal x y))
    stop (inl q) = inl q
    stop (inr q) = inr (inr (rw q))

    go : ((k : ℕ) → judge_from a m (end_at p k) (n + k) ≡ refusal x y → (x ≡ 34) ⊎ ((x ≡ 35) ⊎ (judge_from (a ++ t) m (end_at p k) (n + k) ≡ refusal x y))) → (z : Said ℕ) → segment_at a p ≡ z → onward z (λ (k : ℕ). judge_from a m (end_at p k) (n + k)) ≡ refusal x y → (x ≡ 34) ⊎ ((x ≡ 35) ⊎ (onward (segment_at (a ++ t) p) (λ (k : ℕ). judge_from (a ++ t) m (end_at p k) (n + k)) ≡ refusal x y))
    go rest (answer k) q e = rw (answered_longer a t p k q) (rest k e)
    go rest (refusal u v) q e = stop (segment_longer a t p x y (q ∙ e))

pub refused_stays : (a t : List ℕ) (x y : ℕ) → judge_of a ≡ refusal x y → (x ≡ 30 → ⊥) → (x ≡ 34 → ⊥) → (x ≡ 35 → ⊥) → judge_of (a ++ t) ≡ refusal x y
refused_stays a t x y e not30 not34 not35 = head (unless_refusal (leb first_at (length a)) 30 (length a) body x y e)
  where
    body : Said ℕ
    body = cond (lt_z (segments a) (pos 0)) (refusal 31 614) (judge_from a (nat_abs (segments a)) first_at 0)

    head : ((leb first_at (length a) ≡ true) × (body ≡ refusal x y)) ⊎ ((leb first_at (length a) ≡ false) × (30 ≡ x) × (length a ≡ y)) → judge_of (a ++ t) ≡ refusal x y
    head (inr z) = absurd (not30 (sym z.1))
    head (inl (h, e)) = sign (lt_z (segments a) (pos 0)) refl e
      where
        there : 642 ≤ length a
        there = leb-true 642 (length a) h

        same : segments (a ++ t) ≡ segments a
        same = field_longer a t 614 (omega (arith, there))

        room : 642 ≤ length (a ++ t)
        room = omega (arith, there, length-append a t)

        go : (x ≡ 34) ⊎ ((x ≡ 35) ⊎ (judge_from (a ++ t) (nat_abs (segments a)) 642 0 ≡ refusal x y)) → judge_from (a ++ t) (nat_abs (segments a)) 642 0 ≡ refusal x y
        go (inl q) = absurd (not34 q)
        go (inr (inl q)) = absurd (not35 q)
        go (inr (inr q)) = q

        sign : (b : Bool) → lt_z (segments a) (pos 0) ≡ b → cond b (refusal 31 614) (judge_from a (nat_abs (segments a)) first_at 0) ≡ refusal x y → judge_of (a ++ t) ≡ refusal x y
        sign true q e = negative (a ++ t) room (ap (λ (z : ℤ). lt_z z (pos 0)) same ∙ q) ∙ e
        sign false q e =
            walks (a ++ t) room (ap (λ (z : ℤ). lt_z z (pos 0)) same ∙ q)
            ∙ ap (λ (z : ℤ). judge_from (a ++ t) (nat_abs z) 642 0) same
            ∙ go (walk_longer a t (nat_abs (segments a)) 642 0 x y e)
