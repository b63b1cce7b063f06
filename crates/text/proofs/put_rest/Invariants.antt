-- The invariant of the loop.
use Rattle.text.specs.Writing.{put_rest}
use lib.ListN.{length}
use mathlib.Core.Path.{◌≡◌}
use Rattle.text.proofs.put_rest.Given as goal

abbrev pub invariant-loop-i : goal.invariant-loop-i
invariant-loop-i l = (length l.room ≡ length l.initial.room) × (put_rest l.room l.i l.due l.rest ≡ put_rest l.initial.room l.n l.minus l.v)
