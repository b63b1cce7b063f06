-- `meter::time::is_time` meets its contract: the time taken apart. Assumes nothing.
use Rattle.meter.specs.Time.{is_time}
use mathlib.Core.Path.{sym, ap, ◌∙◌}
use Rattle.meter.proofs.time.is_time.Goals as goal

pub returns-in-Some : goal.returns-in-Some
returns-in-Some c = c.is_milli.ensures ∙ sym (ap is_time c.in-Some.is)
