-- The invariant of the loop.
use mathlib.Core.Path.{◌≡◌}
use Prim.Native.Nat.{◌*◌, ◌-◌, ◌≤◌}
use Rattle.mphr.specs.Table.{sum}
use Rattle.mphr.specs.Turning.{Counts}
use Rattle.mphr.proofs.faults.sum_of.Given as goal

abbrev pub invariant-loop-j : goal.invariant-loop-j
invariant-loop-j l = (Counts l.s → l.v ≡ sum l.s (l.j - 1)) × (l.v ≤ 1000000 * l.j)
