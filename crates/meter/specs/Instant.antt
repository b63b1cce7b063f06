-- A time that is defined, by its day and millisecond, and one that is not (01, "Times and scaled numbers").
-- Assumes nothing.
use Rattle.std.specs.Prelude.{ℕ, Option, Some, None}
use Rattle.meter.specs.declared.time.Time.{Time}

abbrev pub At : ℕ → ℕ → Option Time
At day ms = Some (record { day = day; milli = ms })

abbrev pub Undefined : Option Time
Undefined = None
