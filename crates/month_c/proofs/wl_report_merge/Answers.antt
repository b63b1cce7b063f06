-- `month_c::wl_report_merge` meets its contract: the numbers told are those said of the answer. Assumes nothing.
use Rattle.told.proofs.Laws.{told_as}
use Rattle.month_c.specs.Reporting.{merged_said}
use Rattle.month_c.proofs.wl_report_merge.Goals as goal

pub returns : goal.returns
returns c = record { lower = c.merge.result; right = c.merge.ensures; says = told_as merged_said c.merge.result c.told.ensures }
