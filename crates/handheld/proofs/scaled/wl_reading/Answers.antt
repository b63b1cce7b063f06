-- `handheld::scaled::wl_reading` meets its contract: the numbers told are those said of the answer. Assumes nothing.
use Rattle.std.proofs.Common.{rules}
use Rattle.told.proofs.Laws.{told_as}
use Rattle.handheld.specs.Scaled.{reading_said}
use Rattle.handheld.proofs.scaled.wl_reading.Goals as goal

pub returns : goal.returns
returns c = record { lower = c.reading_of-found.result; right = (search rules, search rules); says = told_as reading_said c.reading_of-found.result c.told.ensures }
