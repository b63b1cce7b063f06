-- `meter::integer::signed_of` meets its contract: below half the number itself, from half on one below 0. Assumes nothing.
use Rattle.meter.proofs.IntegerLaws.{twos_low, twos_high}
use Rattle.meter.proofs.Signs.{below_zero, below_zero_fits}
use mir.ValLaws.{to_z_pos, to_z-of_z}
use mir.Syntax.{w64}
use Prim.Native.Nat.{◌-◌, ◌^◌, ◌<◌}
use native.Mathlib.Omega.{arith}
use mathlib.Core.Path.{sym, ◌∙◌}
use Rattle.meter.proofs.integer.signed_of.Goals as goal

pub overflow_sub-result : goal.overflow_sub-result
overflow_sub-result c =
    let a = c.args in
    let h : a.half - 1 - (a.v - a.half) < 2 ^ 63 = omega arith in
    below_zero_fits _ h

pub returns-then-v-half : goal.returns-then-v-half
returns-then-v-half c = let a = c.args in to_z_pos w64 a.v (omega arith) ∙ sym (twos_low a.half a.v c.if-v-half.true)

pub returns-else-v-half : goal.returns-else-v-half
returns-else-v-half c =
    let a = c.args in
    let h : a.half - 1 - (a.v - a.half) < 2 ^ 63 = omega arith in
    to_z-of_z w64 _ (below_zero_fits _ h) ∙ below_zero _ h ∙ sym (twos_high a.half a.v c.if-v-half.false (omega arith))
