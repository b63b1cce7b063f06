-- What a host that is not Rattle hands in: a value that may be undefined is a flag, of which every number but 0 says that the value is defined,
-- and then its parts. Assumes nothing.
use Rattle.std.specs.Prelude.{ℕ, Bool, cond, not, eqb, ℤ}
use Rattle.std.specs.declared.option.Option.TheVariants.{Some, None}
use Rattle.std.specs.declared.option.Option.{Option}
use Rattle.meter.specs.declared.time.Time.{Time}
use Rattle.meter.specs.declared.scaled.Scaled.{Scaled}
use Rattle.meter.specs.Numeral as S
use Rattle.meter.specs.Instant as T
use Rattle.meter.specs.declared.general.Moment.{Moment}

abbrev pub is_set : ℕ → Bool
is_set n = not (eqb n 0)

abbrev pub time_given : Bool → ℕ → ℕ → Option Time
time_given defined day ms = cond defined (T.At day ms) None

abbrev pub scaled_given : Bool → ℤ → ℤ → Option Scaled
scaled_given defined integer scale = cond defined (S.Number integer scale) None

abbrev pub moment_given : ℕ → ℕ → ℕ → ℕ → ℕ → ℕ → ℕ → Moment
moment_given year month day hour minute second ms =
    record { date = record { year = year; month = month; day = day }; hour = hour; minute = minute; second = second; milli = ms }

abbrev pub general_given : Bool → Moment → Option Moment
general_given defined t = cond defined (Some t) None
