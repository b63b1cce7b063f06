-- The invariant of the loop: what is left of the text, put into the room as it is, gives the whole.
use Rattle.rewrite.proofs.CopyLaws.{Copying}
use Rattle.rewrite.proofs.copy.copy.Given as goal

abbrev pub invariant-loop-i : goal.invariant-loop-i
invariant-loop-i l = Copying l.initial.room l.s l.from l.n l.at l.room l.i
