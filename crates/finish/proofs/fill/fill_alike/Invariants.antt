-- The invariant of the loop, and its measure.
use Prim.Native.Nat.{◌-◌}
use Rattle.finish.proofs.Filling.{Alike}
use Rattle.finish.proofs.fill.fill_alike.Given as goal

abbrev pub invariant-loop-end : goal.invariant-loop-end
invariant-loop-end l = Alike l.s l.initial.rows l.initial.counts l.k l.at l.size l.rows l.counts l.count l.end

abbrev pub decreases-loop-end : goal.decreases-loop-end
decreases-loop-end l = l.until - l.end
