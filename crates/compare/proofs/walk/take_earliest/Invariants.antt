-- The invariant of the loop, and its measure.
use Prim.Native.Nat.{◌-◌}
use lib.ListN.{length}
use Rattle.compare.proofs.StepLaws.{Searching}
use Rattle.compare.proofs.walk.take_earliest.Given as goal

abbrev pub invariant-loop-next : goal.invariant-loop-next
invariant-loop-next l = Searching l.original l.from l.cut l.at l.size l.next

abbrev pub decreases-loop-next : goal.decreases-loop-next
decreases-loop-next l = length l.original - l.next
