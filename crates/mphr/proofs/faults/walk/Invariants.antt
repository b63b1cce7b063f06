-- The invariant of the loop.
use mathlib.Core.Path.{◌≡◌}
use Prim.Native.Nat.{◌≤◌}
use lib.ListN.{length}
use Rattle.mphr.specs.Layout.{names, widths, kinds, line_start}
use Rattle.mphr.specs.Turning.{Past}
use Rattle.mphr.proofs.faults.walk.Given as goal

abbrev pub invariant-loop-k : goal.invariant-loop-k
invariant-loop-k l =
    (l.k ≤ 72) × (l.at ≡ line_start l.k) × (l.at ≤ length l.s) × (Past l.s l.line → Past l.s l.k) × (l.table ≡ names) × (l.width_table ≡ widths) × (l.kind_table ≡ kinds)
