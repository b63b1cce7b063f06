-- `warpladle::judging::wl_rows` meets its contract: the numbers told are those said of the answer. Assumes nothing.
use Rattle.told.proofs.Laws.{told_as}
use Rattle.warpladle.specs.Judging.{finished_said}
use Rattle.warpladle.proofs.judging.wl_rows.Goals as goal

pub returns : goal.returns
returns c = record { lower = c.rows.result; right = c.rows.ensures; says = told_as finished_said c.rows.result c.told.ensures }
