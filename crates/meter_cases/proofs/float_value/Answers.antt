-- `meter_cases::float_value` is safe: the bits that are made a float are those of no NaN. Assumes nothing.
use lib.Ieee.{binary64, nan_bits}
use lib.Dec.{T, eqb}
use borrow.Author.Tests.{eqb-true, eq-eqb}
use mathlib.Core.Bool.{◌&&◌, not}
use Rattle.std.proofs.Common.{arith, ◌≡◌, ℕ, ◌≤◌, ◌/◌, ◌%◌, Bool, true, false, refl}
use Rattle.meter_cases.proofs.float_value.Goals as goal

number : (b : ℕ) → b % 0x8000_0000_0000_0000 ≤ 0x7ff0_0000_0000_0000 → T (not (nan_bits binary64 b))
unfolding nan_bits
number b h = go (eqb (b % 0x8000_0000_0000_0000 / 0x10_0000_0000_0000) 2047) refl
  where
    go : (x : Bool) → eqb (b % 0x8000_0000_0000_0000 / 0x10_0000_0000_0000) 2047 ≡ x → T (not (x && not (eqb (b % 0x10_0000_0000_0000) 0)))
    go true e = let q : b % 0x8000_0000_0000_0000 / 0x10_0000_0000_0000 ≡ 2047 = eqb-true (b % 0x8000_0000_0000_0000 / 0x10_0000_0000_0000) 2047 e in rw (eq-eqb (b % 0x10_0000_0000_0000) 0 (omega arith)) tt
    go false e = tt

pub float_from_bits-want : goal.float_from_bits-want
float_from_bits-want c = number c.word-bits.result (omega (arith, c.if-bits-gt9218868437227405312.false))
