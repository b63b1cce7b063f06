-- `handheld::times::wl_text_time` meets its contract: the numbers told are those said of the answer. Assumes nothing.
use Rattle.told.proofs.Laws.{told_as}
use Rattle.handheld.specs.Times.{time_read_said}
use Rattle.handheld.proofs.times.wl_text_time.Goals as goal

pub returns : goal.returns
returns c = record { lower = c.text_time.result; right = c.text_time.ensures; says = told_as time_read_said c.text_time.result c.told.ensures }
