-- The invariant of the loop.
use Rattle.text.proofs.EachLaws.{Bounds}
use Rattle.text.proofs.is_each.Given as goal

abbrev pub invariant-loop-b : goal.invariant-loop-b
invariant-loop-b l = Bounds l.lo l.hi l.bytes l.at l.b-index l.least l.most
