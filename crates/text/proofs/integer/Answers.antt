-- `text::integer` meets its contract: the number, and the byte after the spaces. Assumes nothing.
use Rattle.text.proofs.Laws.{minus_is, minus_fits, integer_minus, integer_plain}
use Rattle.meter.proofs.GeneralRuns.{number_below, run_part}
use mir.ValLaws.{to_z_pos, to_z-of_z}
use mir.Syntax.{w64}
use Prim.Native.Nat.{◌+◌, ◌^◌, ◌<◌}
use native.Mathlib.Omega.{arith}
use mathlib.Core.Path.{◌∙◌}
use Rattle.text.proofs.integer.Goals as goal

pub overflow_cast-result : goal.overflow_cast-result
overflow_cast-result c =
    let a = c.args in
    let h : c.number_of-m.result < 2 ^ 63 = omega (arith, c.number_of-m.ensures, number_below a.bytes.now (λ k. (c.shared_slice_known-1.given k).fits) a.at a.width 17 (omega arith)) in
    omega arith

pub overflow_sub-result : goal.overflow_sub-result
overflow_sub-result c =
    let a = c.args in
    let h : c.number_of-m.result < 2 ^ 63 = omega (arith, c.number_of-m.ensures, number_below a.bytes.now (λ k. (c.shared_slice_known-1.given k).fits) a.at a.width 17 (omega arith)) in
    minus_fits _ h

pub overflow_cast-result-else-bytes-at-eq45 : goal.overflow_cast-result-else-bytes-at-eq45
overflow_cast-result-else-bytes-at-eq45 c =
    let a = c.args in
    let h : c.number_of-m.result < 2 ^ 63 = omega (arith, c.number_of-m.ensures, number_below a.bytes.now (λ k. (c.shared_slice_known-1.given k).fits) a.at a.width 17 (omega arith)) in
    omega arith

pub returns-then-bytes-at-eq45 : goal.returns-then-bytes-at-eq45
returns-then-bytes-at-eq45 c =
    let a = c.args in
    let h : c.number_of-m.result < 2 ^ 63 = omega (arith, c.number_of-m.ensures, number_below a.bytes.now (λ k. (c.shared_slice_known-1.given k).fits) a.at a.width 17 (omega arith)) in
    to_z-of_z w64 _ (minus_fits _ h) ∙ minus_is _ h ∙ integer_minus a.bytes.now a.at a.width c.number_of-m.result c.run-blank.result c.number_of-m.ensures (run_part 32 32 a.bytes.now a.at (a.at + a.width) a.width c.run-blank.result (omega arith) (omega arith) c.run-blank.ensures.0) c.if-bytes-at-eq45.true

pub returns-else-bytes-at-eq45 : goal.returns-else-bytes-at-eq45
returns-else-bytes-at-eq45 c =
    let a = c.args in
    let h : c.number_of-m.result < 2 ^ 63 = omega (arith, c.number_of-m.ensures, number_below a.bytes.now (λ k. (c.shared_slice_known-1.given k).fits) a.at a.width 17 (omega arith)) in
    to_z_pos w64 _ h ∙ integer_plain a.bytes.now a.at a.width c.number_of-m.result c.run-blank.result c.number_of-m.ensures (run_part 32 32 a.bytes.now a.at (a.at + a.width) a.width c.run-blank.result (omega arith) (omega arith) c.run-blank.ensures.0) c.if-bytes-at-eq45.false

pub bounds-bytes-at : goal.bounds-bytes-at
bounds-bytes-at c = let a = c.args in omega (arith, run_part 32 32 a.bytes.now a.at (a.at + a.width) a.width c.run-blank.result (omega arith) (omega arith) c.run-blank.ensures.0, c.requires.2)
