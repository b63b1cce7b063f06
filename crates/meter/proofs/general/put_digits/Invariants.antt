-- The invariant of the loop.
use mathlib.Core.Path.{◌≡◌}
use lib.ListN.{length}
use Rattle.meter.specs.General.{put_digits}
use Rattle.meter.proofs.general.put_digits.Given as goal

abbrev pub invariant-loop-i : goal.invariant-loop-i
invariant-loop-i l = (length l.room ≡ length l.initial.room) × (put_digits l.room l.at l.i l.rest ≡ put_digits l.initial.room l.at l.n l.v)
