-- The invariant of the loop.
use Prim.Native.Nat.{ℕ, ◌<◌}
use Rattle.watch.specs.Pending.{Hit}
use Rattle.watch.proofs.pending.first_of.Given as goal

abbrev pub invariant-loop-j : goal.invariant-loop-j
invariant-loop-j l = (i : ℕ) → i < l.j → Hit l.targets l.kinds l.lo l.hi l.kind i → ⊥
