-- The invariant of the loop: n is how many of the places below j are not empty.
use Prim.Native.Nat.{◌≤◌}
use mathlib.Core.Path.{◌≡◌}
use Rattle.rewrite.specs.Table.{filled_to}
use Rattle.rewrite.proofs.kinds.kinds_in.Given as goal

abbrev pub invariant-loop-place : goal.invariant-loop-place
invariant-loop-place l = (l.n ≡ filled_to l.table l.place-index) × (l.n ≤ l.place-index)
