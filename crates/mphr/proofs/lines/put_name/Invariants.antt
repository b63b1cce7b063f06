-- The invariant of the loop.
use Rattle.mphr.specs.Lines.{put_name}
use lib.ListN.{length}
use mathlib.Core.Path.{◌≡◌}
use Rattle.mphr.proofs.lines.put_name.Given as goal

abbrev pub invariant-loop-i : goal.invariant-loop-i
invariant-loop-i l = (length l.room ≡ length l.initial.room) × (put_name l.room l.k l.i ≡ put_name l.initial.room l.k l.n)
