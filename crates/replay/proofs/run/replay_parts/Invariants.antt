-- The invariant of the loop.
use Rattle.replay.proofs.RunLaws.{Running}
use Rattle.replay.proofs.run.replay_parts.Given as goal

abbrev pub invariant-loop-k : goal.invariant-loop-k
invariant-loop-k l =
    Running l.recorded l.product l.w l.at l.k
