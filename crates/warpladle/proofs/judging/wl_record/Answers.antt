-- `warpladle::judging::wl_record` meets its contract: the numbers told are those said of the answer. Assumes nothing.
use Rattle.told.proofs.Laws.{told_as}
use Rattle.warpladle.specs.Judging.{record_said}
use Rattle.warpladle.proofs.judging.wl_record.Goals as goal

pub returns : goal.returns
returns c = record { lower = c.record_at.result; right = c.record_at.ensures; says = told_as record_said c.record_at.result c.told.ensures }
