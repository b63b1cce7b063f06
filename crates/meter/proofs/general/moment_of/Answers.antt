-- `meter::general::moment_of` meets its contract: the minute is one of 1,440, and the second at most 60, since the millisecond is of a day. Assumes
-- nothing.
use borrow.Author.Tests.{leb-true}
use native.Mathlib.Omega.{arith}
use Rattle.meter.specs.Time.{last_milli}
use Rattle.meter.specs.General.{moment_of}
use Rattle.meter.proofs.TimeLaws.{last_most}
use Rattle.meter.proofs.general.moment_of.Goals as goal

pub overflow_cast-result-3 : goal.overflow_cast-result-3
overflow_cast-result-3 c =
    let a = c.args in
    record { fits = omega (arith, leb-true a.milli (last_milli a.day) c.requires, last_most a.day, c.minute_of-minutes.ensures) }

pub returns : goal.returns
unfolding moment_of
returns c = rw (c.date_of.ensures, c.minute_of-minutes.ensures)
