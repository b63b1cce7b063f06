-- `meter::time::time_bits` meets its contract: the time taken apart. Assumes nothing.
use Rattle.meter.specs.Time.{bits_of}
use mathlib.Core.Path.{sym, ap}
use Rattle.meter.proofs.time.time_bits.Goals as goal

pub returns-in-Some : goal.returns-in-Some
returns-in-Some c = sym (ap bits_of c.in-Some.is)
