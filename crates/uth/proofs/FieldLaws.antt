-- Fields as the code has them: a field of 4 bytes is a number below 2 ^ 32, and what is asked of the signed integer is a test of that number. By two's
-- complement, below and from 2 ^ 31 on. Assumes nothing.
use mathlib.Core.Path.{◌≡◌, refl, sym, ap, ◌∙◌}
use mathlib.Core.Bool.{Bool, true, false, ◌&&◌, true≢false}
use Prim.Native.Nat.{ℕ, ◌-◌, ◌≤◌, ◌<◌}
use native.Mathlib.Omega.{arith}
use borrow.Author.Tests.{le-ltb, ltb-true, ltb-false, le-leb, lt-leb, leb-true}
use lib.Dec.{ltb, leb}
use lib.IntN.{ℤ, pos, negsuc, nat_abs}
use lib.Signed.{le_z, lt_z}
use Rattle.meter.specs.Integer.{twos, half_of}
use Rattle.meter.proofs.IntegerLaws.{twos_low, twos_high}
use Rattle.uth.specs.Layout.{is_grid, is_some}

half_is : half_of 4 ≡ 2147483648
unfolding half_of
half_is = refl

low : (v : ℕ) → v < 2147483648 → twos (half_of 4) v ≡ pos v
low v h = twos_low (half_of 4) v (omega (arith, half_is))

high : (v : ℕ) → 2147483648 ≤ v → v < 4294967296 → twos (half_of 4) v ≡ negsuc (half_of 4 - 1 - (v - half_of 4))
high v h l = twos_high (half_of 4) v (omega (arith, half_is)) (omega (arith, half_is))

-- 0 is not in the grid, and is no N
pub grid_zero : (v : ℕ) → v < 1 → is_grid (twos (half_of 4) v) ≡ false
unfolding is_grid
grid_zero v h = rw (low v (omega arith)) (simp (lt-leb 1 v h))

pub some_zero : (v : ℕ) → v < 1 → is_some (twos (half_of 4) v) ≡ false
unfolding is_some
some_zero v h = rw (low v (omega arith)) (lt-leb 1 v h)

module _ (v : ℕ) (l : v < 4294967296) where
  pub grid_is : 1 ≤ v → leb v 80 ≡ is_grid (twos (half_of 4) v)
  unfolding is_grid
  grid_is h = go (ltb v 2147483648) refl
    where
      go : (b : Bool) → ltb v 2147483648 ≡ b → leb v 80 ≡ le_z (pos 1) (twos (half_of 4) v) && le_z (twos (half_of 4) v) (pos 80)
      go true e = rw (low v (ltb-true v 2147483648 e)) (simp (le-leb 1 v h))
      go false e = let g = ltb-false v 2147483648 e in rw (high v g l) (lt-leb v 80 (omega arith))

  pub some_is : 1 ≤ v → ltb v 2147483648 ≡ is_some (twos (half_of 4) v)
  unfolding is_some
  some_is h = go (ltb v 2147483648) refl
    where
      go : (b : Bool) → ltb v 2147483648 ≡ b → b ≡ le_z (pos 1) (twos (half_of 4) v)
      go true e = rw (low v (ltb-true v 2147483648 e)) (sym (le-leb 1 v h))
      go false e = rw (high v (ltb-false v 2147483648 e) l)

  -- what is in the grid, or an N, or an M, is the number itself
  above : le_z (pos 1) (twos (half_of 4) v) ≡ true → nat_abs (twos (half_of 4) v) ≡ v
  above t = go (ltb v 2147483648) refl
    where
      go : (b : Bool) → ltb v 2147483648 ≡ b → nat_abs (twos (half_of 4) v) ≡ v
      go true e = ap nat_abs (low v (ltb-true v 2147483648 e))
      go false e = absurd (true≢false (sym t ∙ ap (le_z (pos 1)) (high v (ltb-false v 2147483648 e) l)))

  pub some_number : is_some (twos (half_of 4) v) ≡ true → nat_abs (twos (half_of 4) v) ≡ v
  unfolding is_some
  some_number t = above t

  pub grid_number : is_grid (twos (half_of 4) v) ≡ true → nat_abs (twos (half_of 4) v) ≡ v
  unfolding is_grid
  grid_number t = above (first (le_z (pos 1) (twos (half_of 4) v)) _ t)
    where
      first : (x y : Bool) → x && y ≡ true → x ≡ true
      first true y e = refl
      first false y e = e

  pub natural_number : lt_z (twos (half_of 4) v) (pos 0) ≡ false → nat_abs (twos (half_of 4) v) ≡ v
  natural_number t = go (ltb v 2147483648) refl
    where
      go : (b : Bool) → ltb v 2147483648 ≡ b → nat_abs (twos (half_of 4) v) ≡ v
      go true e = ap nat_abs (low v (ltb-true v 2147483648 e))
      go false e = absurd (true≢false (sym (ap (λ (z : ℤ). lt_z z (pos 0)) (high v (ltb-false v 2147483648 e) l)) ∙ t))

  pub below_zero : 2147483648 ≤ v → lt_z (twos (half_of 4) v) (pos 0) ≡ true
  below_zero h = ap (λ (z : ℤ). lt_z z (pos 0)) (high v h l)

pub not_below : (v : ℕ) → v < 2147483648 → lt_z (twos (half_of 4) v) (pos 0) ≡ false
not_below v h = ap (λ (z : ℤ). lt_z z (pos 0)) (low v h) ∙ le-ltb v 0 (omega arith)

pub number : (v : ℕ) → v < 2147483648 → nat_abs (twos (half_of 4) v) ≡ v
number v h = ap nat_abs (low v h)

pub some_least : (z : ℤ) → is_some z ≡ true → 1 ≤ nat_abs z
unfolding is_some
some_least (pos n) t = leb-true 1 n t
some_least (negsuc n) t = absurd (true≢false (sym t))
