-- The invariant of the loop: what was copied so far is the part's.
use Prim.Native.Nat.{◌+◌, ◌≤◌}
use mathlib.Core.Path.{◌≡◌}
use lib.ListN.{length}
use Rattle.watch.specs.Turning.{Copied}
use Rattle.watch.proofs.under_way.keep.Given as goal

abbrev pub invariant-loop-i : goal.invariant-loop-i
invariant-loop-i l = length l.initial.head ≡ 3307 → Copied l.initial.head l.got l.part 0 l.head (l.got + l.i)
