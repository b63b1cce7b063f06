-- The invariant of the loop, and its measure.
use Prim.Native.Nat.{ℕ, ◌-◌}
use mathlib.Core.List.{List}
use lib.ListN.{length}
use Rattle.finish.specs.Ahead.{Ahead}
use Rattle.finish.proofs.ProfileLaws.{Asking}
use Rattle.finish.proofs.profile.first_against.Given as goal

abbrev pub invariant-loop-at : goal.invariant-loop-at
invariant-loop-at l = (list : List ℕ) → Ahead l.s 0 list → Asking l.profile l.s list l.at

abbrev pub decreases-loop-at : goal.decreases-loop-at
decreases-loop-at l = length l.s - l.at
