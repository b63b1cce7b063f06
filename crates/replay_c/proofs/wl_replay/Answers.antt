-- `replay_c::wl_replay` meets its contract: the numbers told are those said of the answer. Assumes nothing.
use Rattle.told.proofs.Laws.{told_as}
use Rattle.replay_c.specs.Replaying.{replayed_said}
use Rattle.replay_c.proofs.wl_replay.Goals as goal

pub returns : goal.returns
returns c = record { lower = c.replay.result; right = c.replay.ensures; says = told_as replayed_said c.replay.result c.told.ensures }
