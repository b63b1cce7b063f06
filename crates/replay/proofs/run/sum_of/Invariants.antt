-- The invariant of the loop.
use Rattle.replay.specs.Layout.{length_at}
use Rattle.replay.proofs.SumLaws.{Summed}
use Rattle.replay.proofs.run.sum_of.Given as goal

abbrev pub invariant-loop-k : goal.invariant-loop-k
invariant-loop-k l = Summed (length_at l.recorded) l.k l.sum
