-- `warpladle::judging::wl_extent` meets its contract: the numbers told are those said of the answer. Assumes nothing.
use Rattle.told.proofs.Laws.{told_as}
use Rattle.warpladle.specs.Judging.{extent_said}
use Rattle.warpladle.proofs.judging.wl_extent.Goals as goal

pub returns : goal.returns
returns c = record { lower = c.judge_extent.result; right = c.judge_extent.ensures; says = told_as extent_said c.judge_extent.result c.told.ensures }
