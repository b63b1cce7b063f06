-- `handheld::scaled::wl_round` meets its contract: the numbers told are those said of the answer. Assumes nothing.
use Rattle.std.proofs.Common.{rules}
use Rattle.told.proofs.Laws.{told_as}
use Rattle.handheld.specs.Scaled.{rounded_said}
use Rattle.handheld.proofs.scaled.wl_round.Goals as goal

pub returns : goal.returns
returns c = record { lower = c.round_to.result; right = search rules; says = told_as rounded_said c.round_to.result c.told.ensures }
