-- `watch::step_in` meets its contract: a refusal is given again; else what advancing comes to (StepLaws). Assumes nothing.
use mathlib.Core.Path.{refl}
use Rattle.watch.proofs.StepLaws.{fed_again, fed_nothing, fed_on}
use Rattle.watch.proofs.step_in.Goals as goal

pub returns-then-mark-ne0 : goal.returns-then-mark-ne0
returns-then-mark-ne0 c = fed_again c.if-mark-ne0.true refl

pub returns-then-part-eq0 : goal.returns-then-part-eq0
returns-then-part-eq0 c = fed_nothing c.if-mark-ne0.false c.if-part-eq0.true c.idle-answer.ensures

pub returns : goal.returns
returns c = fed_on c.if-mark-ne0.false c.if-part-eq0.false c.advance.ensures
