-- `meter::general::put_digits` meets its contract. The invariant: the i digits that are left, put into the room as it is, give the
-- whole. Assumes nothing.
use native.Mathlib.Omega.{arith}
use mathlib.Core.Path.{sym, ◌∙◌}
use lib.ListN.{length-set}
use Rattle.meter.proofs.GeneralWrite.{digits_step, digits_none}
use Rattle.meter.proofs.general.put_digits.Goals as goal

pub loop-i-preserved : goal.loop-i-preserved
loop-i-preserved c = let l = c.loop-i in (simp length-set l.invariant.0, sym (digits_step l.room _ l.i l.rest (omega arith)) ∙ l.invariant.1)

pub returns : goal.returns
returns c =
    let a = c.args in
    let l = c.loop-i in
    sym (digits_none l.room a.at l.i l.rest (omega arith)) ∙ l.invariant.1
