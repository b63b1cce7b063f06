-- `moment::undefined_of` meets its contract: the stop, the start, or none of them. Assumes nothing.
use Rattle.moment.proofs.MomentLaws.{no_stop, no_start, both_some}
use Rattle.moment.proofs.undefined_of.Goals as goal

pub returns-then-stop-eq-UNDEFINED : goal.returns-then-stop-eq-UNDEFINED
returns-then-stop-eq-UNDEFINED c = let a = c.args in (no_stop a.stop a.start c.if-stop-eq-UNDEFINED.true).undefined

pub returns-then-start-eq-UNDEFINED : goal.returns-then-start-eq-UNDEFINED
returns-then-start-eq-UNDEFINED c = let a = c.args in (no_start a.stop a.start c.if-start-eq-UNDEFINED.true).undefined

pub returns : goal.returns
returns c = let a = c.args in (both_some a.stop a.start c.if-stop-eq-UNDEFINED.false c.if-start-eq-UNDEFINED.false).undefined
