-- The invariant of the loop.
use mathlib.Core.Path.{◌≡◌}
use Rattle.meter.specs.General.{number_of}
use Rattle.meter.proofs.general.number.Given as goal

abbrev pub invariant-loop-b : goal.invariant-loop-b
invariant-loop-b l = l.v ≡ number_of l.bytes l.at l.b-index
