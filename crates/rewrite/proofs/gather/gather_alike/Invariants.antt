-- The invariant of the loop, and its measure.
use Prim.Native.Nat.{◌-◌}
use Rattle.rewrite.proofs.GatherLaws.{Alike}
use Rattle.rewrite.proofs.gather.gather_alike.Given as goal

abbrev pub invariant-loop-at : goal.invariant-loop-at
invariant-loop-at l = Alike l.s l.from l.to l.n l.initial.table l.initial.tally l.size l.table l.tally l.records l.at

abbrev pub decreases-loop-at : goal.decreases-loop-at
decreases-loop-at l = l.to - l.at
