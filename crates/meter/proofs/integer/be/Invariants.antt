-- The invariant of the loop.
use Rattle.meter.specs.Integer.{be_at}
use mathlib.Core.Path.{◌≡◌}
use Rattle.meter.proofs.integer.be.Given as goal

abbrev pub invariant-loop-b : goal.invariant-loop-b
invariant-loop-b l = l.v ≡ be_at l.bytes l.at l.b-index
