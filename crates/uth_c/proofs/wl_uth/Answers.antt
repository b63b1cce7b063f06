-- `uth_c::wl_uth` meets its contract: the numbers told are those said of the answer. Assumes nothing.
use Rattle.told.proofs.Laws.{told_as}
use Rattle.uth_c.specs.Humidity.{count_said}
use Rattle.uth_c.proofs.wl_uth.Goals as goal

pub returns : goal.returns
returns c = record { lower = c.read_uth.result; right = c.read_uth.ensures; says = told_as count_said c.read_uth.result c.told.ensures }
