-- The invariant of the loop.
use Rattle.replay.specs.Layout.{length_in}
use Rattle.replay.specs.Steps.{PutsAnswers}
use Rattle.replay.proofs.RunLaws.{Before}
use Rattle.replay.proofs.write.put_answers.Given as goal

abbrev pub invariant-loop-k : goal.invariant-loop-k
invariant-loop-k l =
    Before l.product (length_in l.lengths) l.w l.at l.k × PutsAnswers l.lengths l.product l.k l.initial.room l.room
