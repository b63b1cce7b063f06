-- `warpladle::judging::wl_verdict` meets its contract: the numbers told are those said of the answer. Assumes nothing.
use Rattle.told.proofs.Laws.{told_as}
use Rattle.warpladle.specs.Judging.{finished_said}
use Rattle.warpladle.proofs.judging.wl_verdict.Goals as goal

pub returns : goal.returns
returns c = record { lower = c.verdict.result; right = c.verdict.ensures; says = told_as finished_said c.verdict.result c.told.ensures }
