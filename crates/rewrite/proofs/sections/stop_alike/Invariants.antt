-- The invariant of the loop, and its measure.
use Prim.Native.Nat.{◌-◌}
use lib.ListN.{length}
use Rattle.rewrite.proofs.SectionLaws.{Alike}
use Rattle.rewrite.proofs.sections.stop_alike.Given as goal

abbrev pub invariant-loop-at : goal.invariant-loop-at
invariant-loop-at l = Alike l.s l.from l.before l.size l.at l.place

abbrev pub decreases-loop-at : goal.decreases-loop-at
decreases-loop-at l = length l.s - l.at
