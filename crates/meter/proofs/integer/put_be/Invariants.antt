-- The invariant of the loop.
use Rattle.meter.specs.Integer.{stored}
use lib.ListN.{length}
use mathlib.Core.Path.{◌≡◌}
use Rattle.meter.proofs.integer.put_be.Given as goal

abbrev pub invariant-loop-i : goal.invariant-loop-i
invariant-loop-i l = (length l.room ≡ length l.initial.room) × (stored l.room l.at l.i l.rest ≡ stored l.initial.room l.at l.n l.v)
