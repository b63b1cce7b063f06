-- Signed numbers as the machine has them: a test, a difference and a product on an i64 z speak of `to_z w64 (of_z w64 z)`, which is z where it
-- fits. By cases on the sign. Assumes nothing.
use mathlib.Core.Path.{◌≡◌, refl, sym, ap, ◌∙◌, subst}
use mathlib.Core.Bool.{Bool, true, false, true≢false}
use Prim.Native.Nat.{ℕ, zero, suc, ◌-◌, ◌*◌, ◌^◌, ◌≤◌, ◌<◌}
use native.Mathlib.Nat.{zero-add}
use native.Mathlib.Omega.{arith}
use borrow.Author.Tests.{le-ltb, ltb-true}
use lib.Dec.{T}
use lib.IntN.{ℤ, pos, negsuc, neg_ℤ, nat_abs, ◌-ℤ◌, ◌*ℤ◌}
use lib.Signed.{lt_z, non_neg}
use mir.Syntax.{Width, w8, w64}
use mir.Val.{Fits, SFits, to_z, of_z}
use mir.ValLaws.{to_z-of_z, to_z_pos}

-- what `-1 - z` computes
abbrev pub less : ℤ → ℤ
less z = negsuc 0 -ℤ to_z w64 (of_z w64 z)

-- the test `z < 0` is one of z, at each width
pub tested : {w : Width} (z : ℤ) → SFits w z → (b : Bool) → lt_z (to_z w (of_z w z)) (pos 0) ≡ b → lt_z z (pos 0) ≡ b
tested {w} z f b t = ap (λ (y : ℤ). lt_z y (pos 0)) (sym (to_z-of_z w z f)) ∙ t

-- an i8 as an i64
pub widen : (z : ℤ) → SFits w8 z → SFits w64 (to_z w8 (of_z w8 z))
widen z f = subst (λ (y : ℤ). SFits w64 y) (sym (to_z-of_z w8 z f)) (record { sfits = omega (arith, f.sfits) })

module _ (z : ℤ) (f : SFits w64 z) (t : lt_z (to_z w64 (of_z w64 z)) (pos 0) ≡ true) where
  pub size_pos : 0 < nat_abs z
  size_pos = go z (tested z f true t)
    where
      go : (z : ℤ) → lt_z z (pos 0) ≡ true → 0 < nat_abs z
      go (pos n) t = absurd (omega (arith, ltb-true n 0 t))
      go (negsuc n) t = omega arith

  pub less_is : less z ≡ pos (nat_abs z - 1)
  less_is = ap (λ (y : ℤ). negsuc 0 -ℤ y) (to_z-of_z w64 z f) ∙ go z (tested z f true t)
    where
      go : (z : ℤ) → lt_z z (pos 0) ≡ true → negsuc 0 -ℤ z ≡ pos (nat_abs z - 1)
      go (pos n) t = absurd (omega (arith, ltb-true n 0 t))
      go (negsuc n) t = simp (le-ltb (suc n) 1 (omega arith))

-- a size is at most 2 ^ 63
pub size_small : (z : ℤ) → SFits w64 z → nat_abs z ≤ 2 ^ 63
size_small (pos n) f = omega (arith, f.sfits)
size_small (negsuc n) f = f.sfits

module _ (z : ℤ) (f : SFits w64 z) (t : lt_z (to_z w64 (of_z w64 z)) (pos 0) ≡ true) where
  pub less_fits : SFits w64 (less z)
  less_fits = subst (λ (y : ℤ). SFits w64 y) (sym (less_is z f t)) (record { sfits = omega (arith, size_pos z f t, size_small z f) })

  pub less_back : to_z w64 (of_z w64 (less z)) ≡ pos (nat_abs z - 1)
  less_back = to_z-of_z w64 (less z) less_fits ∙ less_is z f t

pub not_below : (z : ℤ) → SFits w64 z → lt_z (to_z w64 (of_z w64 z)) (pos 0) ≡ false → T (non_neg (to_z w64 (of_z w64 z))) × Fits w64 (nat_abs (to_z w64 (of_z w64 z)))
not_below z f t = subst (λ (y : ℤ). T (non_neg y) × Fits w64 (nat_abs y)) (sym (to_z-of_z w64 z f)) (go z f (tested z f false t))
  where
    go : (z : ℤ) → SFits w64 z → lt_z z (pos 0) ≡ false → T (non_neg z) × Fits w64 (nat_abs z)
    go (pos n) f t = (tt, omega (arith, f.sfits))
    go (negsuc n) f t = absurd (true≢false t)

-- -1 - m
minus_one : (m : ℕ) → negsuc 0 -ℤ pos m ≡ negsuc m
minus_one zero = refl
minus_one (suc m) = ap (λ (k : ℕ). negsuc (suc k)) (zero-add m)

-- -1 - m as the machine has it, and that it fits
pub below_zero : (m : ℕ) → m < 2 ^ 63 → negsuc 0 -ℤ to_z w64 m ≡ negsuc m
below_zero m h = ap (λ (z : ℤ). negsuc 0 -ℤ z) (to_z_pos w64 m h) ∙ minus_one m

pub below_zero_fits : (m : ℕ) → m < 2 ^ 63 → SFits w64 (negsuc 0 -ℤ to_z w64 m)
below_zero_fits m h = subst (λ (z : ℤ). SFits w64 z) (sym (below_zero m h)) (record { sfits = h })

-- ---- a product with a size
size_below : (m : ℕ) → nat_abs (neg_ℤ (pos m)) ≡ m
size_below zero = refl
size_below (suc m) = refl

pub size_times : (z : ℤ) (p : ℕ) → nat_abs (z *ℤ pos p) ≡ nat_abs z * p
size_times (pos n) p = refl
size_times (negsuc n) p = size_below (suc n * p)

-- a number of a small size fits
pub small_fits : (z : ℤ) → nat_abs z < 2 ^ 63 → SFits w64 z
small_fits (pos n) h = record { sfits = h }
small_fits (negsuc n) h = record { sfits = omega arith }
