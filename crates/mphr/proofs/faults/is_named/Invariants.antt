-- The invariant of the loop.
use Prim.Native.Nat.{◌*◌}
use Rattle.mphr.specs.Layout.{names}
use Rattle.mphr.specs.Turning.{Alike}
use Rattle.mphr.proofs.faults.is_named.Given as goal

abbrev pub invariant-loop-i : goal.invariant-loop-i
invariant-loop-i l = Alike l.s names l.at (30 * l.k) (10 * l.i)
