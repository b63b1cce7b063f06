-- The invariant of the loop, and its measure.
use Prim.Native.Nat.{◌-◌}
use lib.ListN.{length}
use Rattle.parts.specs.Cut.{window}
use Rattle.rewrite.specs.Surveying.{Surveying}
use Rattle.rewrite.proofs.survey.survey.Given as goal

abbrev pub invariant-loop-at : goal.invariant-loop-at
invariant-loop-at l = Surveying l.s (window l.first l.last) l.at l.table l.tally l.found

abbrev pub decreases-loop-at : goal.decreases-loop-at
decreases-loop-at l = length l.s - l.at
