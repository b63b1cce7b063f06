-- The invariant of the loop, and its measure.
use Prim.Native.Nat.{◌-◌}
use lib.ListN.{length}
use Rattle.rewrite.proofs.SectionLaws.{Starting}
use Rattle.rewrite.proofs.sections.first_start.Given as goal

abbrev pub invariant-loop-at : goal.invariant-loop-at
invariant-loop-at l = Starting l.s l.from l.at

abbrev pub decreases-loop-at : goal.decreases-loop-at
decreases-loop-at l = length l.s - l.at
