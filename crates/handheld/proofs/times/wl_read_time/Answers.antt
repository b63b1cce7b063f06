-- `handheld::times::wl_read_time` meets its contract: the numbers told are those said of the answer. Assumes nothing.
use Rattle.told.proofs.Laws.{told_as}
use Rattle.handheld.specs.Times.{time_read_said}
use Rattle.handheld.proofs.times.wl_read_time.Goals as goal

pub returns : goal.returns
returns c = record { lower = c.read_time.result; right = c.read_time.ensures; says = told_as time_read_said c.read_time.result c.told.ensures }
