-- The invariant of the loop.
use Rattle.rewrite.proofs.EmitLaws.{Emitting}
use Rattle.rewrite.proofs.kinds.put_pointers.Given as goal

abbrev pub invariant-loop-j : goal.invariant-loop-j
invariant-loop-j l = Emitting l.s l.base l.table l.initial.room l.p l.room l.to l.j
