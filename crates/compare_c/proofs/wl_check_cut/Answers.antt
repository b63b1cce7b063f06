-- `compare_c::wl_check_cut` meets its contract: the numbers told are those said of the answer. Assumes nothing.
use Rattle.told.proofs.Laws.{told_as}
use Rattle.compare_c.specs.Checking.{checked_said}
use Rattle.compare_c.proofs.wl_check_cut.Goals as goal

pub returns : goal.returns
returns c = record { lower = c.check_cut.result; right = c.check_cut.ensures; says = told_as checked_said c.check_cut.result c.told.ensures }
