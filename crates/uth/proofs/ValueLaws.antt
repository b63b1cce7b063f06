-- The laws of a file's floats: which bits are finite, by one test of the number without its sign; and A FINITE VALUE KEEPS ITS BITS, -0.0 and
-- subnormals too. By the kit's account of IEEE 754. Assumes nothing.
use mathlib.Core.Path.{◌≡◌, refl, sym, ap, ◌∙◌, subst}
use mathlib.Core.Bool.{Bool, true, false, cond, not, true≢false}
use Prim.Native.Nat.{ℕ, zero, suc, ◌+◌, ◌/◌, ◌%◌, ◌^◌, ◌<◌}
use native.Mathlib.Omega.{arith}
use borrow.Author.Tests.{lt-ltb, le-ltb, eqb-true, eqb-false}
use lib.Dec.{T, eqb, ltb, leb}
use lib.Ieee.{Float, nan, inf, fin, binary32, odd, of_fields, of_bits, to_bits, is_nan, nan_bits}
use lib.Ieee.Bits.{to_bits-of_bits, nan_bits_is}
use Rattle.uth.specs.Value.{finite, value_of}
use Rattle.std.specs.declared.option.Option.TheVariants.{Some, None}

odd_finite : (d : ℕ) (s : Bool) (q k l : ℕ) → finite (odd d s q k l) ≡ true
unfolding odd
odd_finite d s zero k l = refl
odd_finite d s (suc q) k l = refl

-- a finite value is one whose exponent's field is not all ones
fields_finite : (s : Bool) (x t : ℕ) → finite (of_fields binary32 s x t) ≡ not (eqb x 255)
unfolding of_fields
fields_finite s zero t = odd_finite 24 s t 0 149
fields_finite s (suc x) t = go (eqb (suc x) 255) (eqb t 0)
  where
    go : (b z : Bool) → finite (cond b (cond z (inf s) nan) (odd 24 s (8388608 + t) x 149)) ≡ not b
    go true true = refl
    go true false = refl
    go false z = odd_finite 24 s (8388608 + t) x 149

-- and that is a number, without its sign, below the infinity's
pub finite_is : (n : ℕ) → ltb (n % 2147483648) 2139095040 ≡ finite (of_bits binary32 n)
unfolding of_bits
finite_is n = go (eqb (n % 2147483648 / 8388608) 255) refl ∙ sym (fields_finite (leb 2147483648 n) (n % 2147483648 / 8388608) (n % 8388608))
  where
    go : (b : Bool) → eqb (n % 2147483648 / 8388608) 255 ≡ b → ltb (n % 2147483648) 2139095040 ≡ not (eqb (n % 2147483648 / 8388608) 255)
    go true e = let h = eqb-true (n % 2147483648 / 8388608) 255 e in rw e (le-ltb (n % 2147483648) 2139095040 (omega arith))
    go false e = let d : n % 2147483648 / 8388608 ≡ 255 → ⊥ = eqb-false (n % 2147483648 / 8388608) 255 e in rw e (lt-ltb (n % 2147483648) 2139095040 (omega arith))

not_nan : (x : Float) → finite x ≡ true → T (not (is_nan x))
unfolding is_nan
not_nan nan e = absurd (true≢false (sym e))
not_nan (inf s) e = tt
not_nan (fin s m k) e = tt

-- a finite value can be made of its bits
pub no_nan : (n : ℕ) → finite (of_bits binary32 n) ≡ true → T (not (nan_bits binary32 n))
no_nan n e = subst (λ (b : Bool). T (not b)) (sym (nan_bits_is binary32 n)) (not_nan (of_bits binary32 n) e)

-- A FINITE VALUE KEEPS ITS BITS
pub keeps_bits : (n : ℕ) → n < 2 ^ 32 → (x : Float) → value_of n ≡ Some x → to_bits binary32 x ≡ n
unfolding value_of
keeps_bits n h x e = go (finite (of_bits binary32 n)) refl e
  where
    go : (b : Bool) → finite (of_bits binary32 n) ≡ b → cond b (Some (of_bits binary32 n)) None ≡ Some x → to_bits binary32 x ≡ n
    go true f e = let q : of_bits binary32 n ≡ x = cc in ap (to_bits binary32) (sym q) ∙ to_bits-of_bits binary32 n h (not_nan (of_bits binary32 n) f)
    go false f e = let z : ◌≡◌ {A = ℕ} 0 1 = cc in absurd (omega arith)

-- MISSING exactly where it is not finite
pub missing : (n : ℕ) → finite (of_bits binary32 n) ≡ false → value_of n ≡ None
unfolding value_of
missing n e = simp e

pub there : (n : ℕ) → finite (of_bits binary32 n) ≡ true → value_of n ≡ Some (of_bits binary32 n)
unfolding value_of
there n e = simp e
