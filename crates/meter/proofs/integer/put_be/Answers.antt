-- `meter::integer::put_be` meets its contract. The invariant: to store what is left into what stands there gives what is to be stored in all.
-- Assumes nothing.
use Rattle.meter.proofs.IntegerLaws.{stored_step, stored_none}
use lib.ListN.{length-set}
use native.Mathlib.Omega.{arith}
use mathlib.Core.Path.{sym, ◌∙◌}
use Rattle.meter.proofs.integer.put_be.Goals as goal

pub loop-i-preserved : goal.loop-i-preserved
loop-i-preserved c =
    let l = c.loop-i in
    (simp length-set l.invariant.0, sym (stored_step l.room _ l.i l.rest (omega arith)) ∙ l.invariant.1)

pub returns : goal.returns
returns c =
    let l = c.loop-i in
    sym (stored_none l.room c.args.at l.i l.rest (omega arith)) ∙ l.invariant.1
