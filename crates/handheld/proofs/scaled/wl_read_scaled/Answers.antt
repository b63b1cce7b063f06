-- `handheld::scaled::wl_read_scaled` meets its contract: the numbers told are those said of the answer. Assumes nothing.
use Rattle.std.proofs.Common.{rules}
use Rattle.told.proofs.Laws.{told_as}
use Rattle.handheld.specs.Scaled.{scaled_said}
use Rattle.handheld.proofs.scaled.wl_read_scaled.Goals as goal

pub returns : goal.returns
returns c = record { lower = c.read_scaled.result; right = search rules; says = told_as scaled_said c.read_scaled.result c.told.ensures }
