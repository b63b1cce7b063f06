-- The invariant of the loop, and its measure.
use Prim.Native.Nat.{ℕ, ◌-◌}
use mathlib.Core.List.{List, ◌∷◌}
use lib.ListN.{length}
use Rattle.demands.specs.Product.{Meets}
use Rattle.month.proofs.CountLaws.{Sofar}
use Rattle.month.proofs.count.count_records.Given as goal

abbrev pub invariant-loop-at : goal.invariant-loop-at
invariant-loop-at l = (t : Meets l.s) × ((rest : List ℕ) × Sofar l.s (0 ∷ t.list) l.records l.bytes l.pairs l.at rest)

abbrev pub decreases-loop-at : goal.decreases-loop-at
decreases-loop-at l = length l.s - l.at
