-- `meter::scaled::with_sign` meets its contract: the sign, then the range. Assumes nothing.
use Rattle.meter.proofs.RoundingLaws.{zero_below, whole_below, whole_above, large_above}
use Rattle.meter.proofs.Signs.{tested, below_zero, below_zero_fits}
use Rattle.std.specs.declared.option.Option.TheVariants.{Some}
use Rattle.calendar.specs.Said.{answer}
use lib.IntN.{ℤ}
use mir.ValLaws.{to_z_pos, to_z-of_z}
use mir.Syntax.{w64}
use Prim.Native.Nat.{◌-◌, ◌^◌, ◌<◌, ◌≤◌}
use native.Mathlib.Omega.{arith}
use mathlib.Core.Bool.{true, false}
use mathlib.Core.Path.{sym, ap, ◌∙◌}
use Rattle.meter.proofs.scaled.with_sign.Goals as goal

pub returns-then-size-eq0 : goal.returns-then-size-eq0
returns-then-size-eq0 c = sym (zero_below c.args.integer c.args.size (tested c.args.integer c.ranges.integer true c.if-integer-lt0.true) c.if-size-eq0.true)

pub overflow_sub-result : goal.overflow_sub-result
overflow_sub-result c = let h : c.args.size - 1 < 2 ^ 63 = omega arith in below_zero_fits _ h

pub returns-then-integer-lt0 : goal.returns-then-integer-lt0
returns-then-integer-lt0 c =
    let h : c.args.size - 1 < 2 ^ 63 = omega arith in
    let p : 0 < c.args.size = omega (arith, c.if-size-eq0.false) in
    ap (λ (z : ℤ). answer (Some z)) (to_z-of_z w64 _ (below_zero_fits _ h) ∙ below_zero _ h) ∙ sym (whole_below c.args.integer c.args.size (tested c.args.integer c.ranges.integer true c.if-integer-lt0.true) p h)

pub returns-then-size-gt9223372036854775807 : goal.returns-then-size-gt9223372036854775807
returns-then-size-gt9223372036854775807 c = let h : 2 ^ 63 ≤ c.args.size = omega arith in sym (large_above c.args.integer c.args.size (tested c.args.integer c.ranges.integer false c.if-integer-lt0.false) h)

pub returns : goal.returns
returns c =
    let h : c.args.size < 2 ^ 63 = omega arith in
    ap (λ (z : ℤ). answer (Some z)) (to_z_pos w64 c.args.size h) ∙ sym (whole_above c.args.integer c.args.size (tested c.args.integer c.ranges.integer false c.if-integer-lt0.false) h)
