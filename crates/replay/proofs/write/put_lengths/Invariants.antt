-- The invariant of the loop.
use Rattle.replay.specs.Steps.{PutsLengths}
use Rattle.replay.proofs.write.put_lengths.Given as goal

abbrev pub invariant-loop-k : goal.invariant-loop-k
invariant-loop-k l = PutsLengths l.lengths l.k l.initial.room l.room
