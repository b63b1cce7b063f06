-- The invariant of the loop, and its measure.
use Prim.Native.Nat.{ℕ, ◌-◌}
use mathlib.Core.List.{List}
use lib.ListN.{length}
use Rattle.finish.specs.Fill.{Fillable, Filling}
use Rattle.finish.proofs.fill.fill.Given as goal

abbrev pub invariant-loop-at : goal.invariant-loop-at
invariant-loop-at l = (list : List ℕ) → Fillable l.s l.initial.rows list → Filling l.s l.initial.rows list l.rows l.counts l.k l.at

abbrev pub decreases-loop-at : goal.decreases-loop-at
decreases-loop-at l = length l.s - l.at
