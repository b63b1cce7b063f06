-- The invariant of the loop: the first k bytes are the part's.
use mathlib.Core.Path.{◌≡◌}
use lib.ListN.{length}
use Rattle.watch.specs.Turning.{Copied}
use Rattle.watch.proofs.under_way.copy_twenty.Given as goal

abbrev pub invariant-loop-k : goal.invariant-loop-k
invariant-loop-k l = length l.initial.under ≡ 27 → Copied l.initial.under 0 l.part l.from l.under l.k
