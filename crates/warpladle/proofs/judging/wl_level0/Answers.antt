-- `warpladle::judging::wl_level0` meets its contract: the numbers told are those said of the answer. Assumes nothing.
use Rattle.told.proofs.Laws.{told_as}
use Rattle.warpladle.specs.Judging.{finished_said}
use Rattle.warpladle.proofs.judging.wl_level0.Goals as goal

pub returns : goal.returns
returns c = record { lower = c.judge_level0.result; right = c.judge_level0.ensures; says = told_as finished_said c.judge_level0.result c.told.ensures }
