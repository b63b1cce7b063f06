-- A line of the main header that is not at fault, by its number and where it ends.
-- Assumes nothing.
use Rattle.std.specs.Prelude.{ℕ, Result, Ok}
use Rattle.calendar.specs.declared.Refusal.{Refusal}
use Rattle.mphr.specs.declared.faults.Line.{Line}

abbrev pub line_end : ℕ → ℕ → Result Line Refusal
line_end line end = Ok (record { line = line; end = end })
