-- The invariant of the loop, and its measure.
use Prim.Native.Nat.{◌-◌}
use lib.ListN.{length}
use Rattle.rewrite.specs.Sectioning.{Stopping}
use Rattle.rewrite.proofs.sections.last_stop.Given as goal

abbrev pub invariant-loop-at : goal.invariant-loop-at
invariant-loop-at l = Stopping l.s l.from 0 l.at l.place

abbrev pub decreases-loop-at : goal.decreases-loop-at
decreases-loop-at l = length l.s - l.at
