-- `month::report::sum` meets its contract: the sums before place i are in, the others as they were. Assumes nothing.
use native.Mathlib.Omega.{arith}
use mathlib.Core.Path.{sym, ◌∙◌}
use Rattle.month.proofs.PlusLaws.{plus_at, sum_first, sum_next, sum_last}
use Rattle.month.proofs.report.sum.Goals as goal

pub loop-i-init : goal.loop-i-init
loop-i-init c = sum_first _ _

pub overflow_add-sums : goal.overflow_add-sums
overflow_add-sums c =
    let x = c.loop-i in
    record { fits = omega (arith, x.invariant.kept x.i (omega arith), plus_at c.args.report c.args.other x.i, c.requires.each x.i c.loop-i-test.true) }

pub loop-i-preserved : goal.loop-i-preserved
loop-i-preserved c = sum_next _ _ c.loop-i.invariant (omega (arith, c.well_formed.0.1.0.1))

pub returns : goal.returns
returns c =
    sum_last c.args.report c.args.other c.loop-i.invariant (c.well_formed.0.1.0.1 ∙ sym c.well_formed.1.0.1.0.1) (omega (arith, c.well_formed.0.1.0.1))
