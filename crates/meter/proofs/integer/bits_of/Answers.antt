-- `meter::integer::bits_of` meets its contract, by what `-1 - z` is. Assumes nothing.
use Rattle.meter.proofs.IntegerLaws.{word_neg, word_pos}
use Rattle.meter.proofs.Signs.{less_fits, less_back, size_small, not_below}
use mir.Val.{Fits}
use mir.Syntax.{w64}
use lib.Signed.{non_neg}
use lib.IntN.{ℤ, nat_abs}
use lib.Dec.{T}
use Prim.Native.Nat.{◌-◌, ◌≤◌}
use native.Mathlib.Omega.{arith}
use mathlib.Core.Path.{sym, ap, ◌∙◌, subst}
use Rattle.meter.proofs.integer.bits_of.Goals as goal

pub overflow_sub-m : goal.overflow_sub-m
overflow_sub-m c = less_fits c.args.z c.ranges.z c.if-z-lt0.true

pub overflow_cast-result : goal.overflow_cast-result
overflow_cast-result c =
    subst (λ (y : ℤ). T (non_neg y) × Fits w64 (nat_abs y)) (sym (less_back c.args.z c.ranges.z c.if-z-lt0.true))
    (tt, omega (arith, size_small c.args.z c.ranges.z))

pub overflow_sub-result : goal.overflow_sub-result
overflow_sub-result c =
    subst (λ (y : ℤ). nat_abs y ≤ 0xffff_ffff_ffff_ffff) (sym (less_back c.args.z c.ranges.z c.if-z-lt0.true))
    (omega (arith, size_small c.args.z c.ranges.z))

pub overflow_cast-result-else-z-lt0 : goal.overflow_cast-result-else-z-lt0
overflow_cast-result-else-z-lt0 c = not_below c.args.z c.ranges.z c.if-z-lt0.false

pub returns-then-z-lt0 : goal.returns-then-z-lt0
returns-then-z-lt0 c =
    ap (λ (y : ℤ). 0xffff_ffff_ffff_ffff - nat_abs y) (less_back c.args.z c.ranges.z c.if-z-lt0.true) ∙ word_neg c.args.z c.ranges.z c.if-z-lt0.true

pub returns-else-z-lt0 : goal.returns-else-z-lt0
returns-else-z-lt0 c = word_pos c.args.z c.ranges.z c.if-z-lt0.false
