-- The invariant of the loop.
use Prim.Native.Nat.{◌+◌, ◌-◌, ◌≤◌}
use mathlib.Core.Path.{◌≡◌}
use lib.ListN.{length}
use Rattle.watch.specs.Turning.{Copied}
use Rattle.watch.proofs.under_way.fill_slowly.Given as goal

abbrev pub invariant-loop-i : goal.invariant-loop-i
invariant-loop-i l = (l.held ≤ l.k) × (l.i ≡ l.from + (l.k - l.held)) × (l.k ≤ 27) × (length l.initial.under ≡ 27 → Copied l.initial.under l.held l.part l.from l.under l.k)
