-- A scaled number that is defined, by its integer and scale, and one that is not (01, "Times and scaled numbers").
-- Assumes nothing.
use Rattle.std.specs.Prelude.{ℤ, Option, Some, None}
use Rattle.meter.specs.declared.scaled.Scaled.{Scaled}

abbrev pub Number : ℤ → ℤ → Option Scaled
Number i s = Some (record { integer = i; scale = s })

abbrev pub Undefined : Option Scaled
Undefined = None
