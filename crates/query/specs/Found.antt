-- What a query finds: a record by its start and header, and the part of a field by its start and width.
-- Assumes nothing.
use Rattle.std.specs.Prelude.{ℕ, Result, Ok}
use Rattle.calendar.specs.declared.Refusal.{Refusal}
use Rattle.record.specs.declared.header.Header.{Header}
use Rattle.query.specs.declared.Record.{Record}
use Rattle.query.specs.declared.Part.{Part}

abbrev pub record_found : ℕ → Header → Result Record Refusal
record_found start h = Ok (record { start = start; header = h })

abbrev pub part_found : ℕ → ℕ → Result Part Refusal
part_found start width = Ok (record { start = start; width = width })
