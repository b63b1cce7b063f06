-- Each marked case of 01 holds: one claim over the table, by computing. Assumes nothing.
use mathlib.Core.Path.{refl}
use Rattle.calendar.specs.Calendar.{date_of, leap_day}
use Rattle.meter.specs.Time.{last_milli}
use Rattle.meter.specs.Scaled.{is_scale}
use Rattle.meter.specs.Rounding.{is_decimals, near, with_sign, whole64}
use Rattle.record.specs.Follow.{first_after, may_follow}
use Rattle.demands.specs.Marked.{Each, marked}

pub marked_cases : Each marked
unfolding date_of last_milli leap_day is_scale is_decimals near with_sign whole64 first_after may_follow
marked_cases = (refl, (refl, (refl, (refl, (refl, (refl, (refl, (refl, (refl, (refl, (refl, (refl, tt))))))))))))
