-- `month_c::wl_report_add` meets its contract: the numbers told are those said of the answer. Assumes nothing.
use Rattle.told.proofs.Laws.{told_as}
use Rattle.month_c.specs.Reporting.{added_said}
use Rattle.month_c.proofs.wl_report_add.Goals as goal

pub returns : goal.returns
returns c = record { lower = c.add.result; right = c.add.ensures; says = told_as added_said c.add.result c.told.ensures }
