-- The invariant of the loop, and its measure.
use Prim.Native.Nat.{◌-◌}
use lib.ListN.{length}
use Rattle.parts.specs.Cut.{window}
use Rattle.rewrite.proofs.KeepLaws.{Putting}
use Rattle.rewrite.proofs.survey.put_kept.Given as goal

abbrev pub invariant-loop-at : goal.invariant-loop-at
invariant-loop-at l = Putting (window l.first l.last) l.s l.initial.room l.p l.room l.to l.at

abbrev pub decreases-loop-at : goal.decreases-loop-at
decreases-loop-at l = length l.s - l.at
