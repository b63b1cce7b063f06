-- `handheld::dates::wl_day_number` meets its contract: the numbers told are those said of the answer. Assumes nothing.
use Rattle.told.proofs.Laws.{told_as}
use Rattle.handheld.specs.Dates.{day_said}
use Rattle.handheld.proofs.dates.wl_day_number.Goals as goal

pub returns : goal.returns
returns c = record { lower = c.day_number.result; right = c.day_number.ensures; says = told_as day_said c.day_number.result c.told.ensures }
