-- The invariant of the loop, and its measure.
use Prim.Native.Nat.{◌-◌}
use Rattle.finish.proofs.Filling.{Evenly}
use Rattle.finish.proofs.fill.fill_even.Given as goal

abbrev pub invariant-loop-i : goal.invariant-loop-i
invariant-loop-i l = Evenly l.s l.initial.rows l.initial.counts l.k l.at l.size l.end l.rows l.counts l.count l.i

abbrev pub decreases-loop-i : goal.decreases-loop-i
decreases-loop-i l = l.end - l.i
