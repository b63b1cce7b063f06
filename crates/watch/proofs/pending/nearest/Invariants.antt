-- The invariant of the loop: no target so far, from `from` on, lies before `near`.
use Prim.Native.Nat.{ℕ, ◌≤◌, ◌<◌}
use lib.ListN.{get_or}
use Rattle.watch.proofs.pending.nearest.Given as goal

abbrev pub invariant-loop-target : goal.invariant-loop-target
invariant-loop-target l = (l.near ≤ l.d) × ((i : ℕ) → i < l.target-index → l.from ≤ get_or l.targets i 0 → l.near ≤ get_or l.targets i 0)
