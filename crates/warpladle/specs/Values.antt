-- The values of a product's part, as numbers: the number of a field and a record's header, told and handed in (docs/DECISIONS.md, F9). The other
-- values are those of `told`. Assumes nothing.
use Rattle.std.specs.Prelude.{ℕ, Bool, cond, List, [], ◌∷◌, ℤ}
use Rattle.meter.specs.Integer.{word_of}
use Rattle.std.specs.declared.option.Option.TheVariants.{Some, None}
use Rattle.std.specs.declared.option.Option.{Option}
use Rattle.meter.specs.declared.time.Time.{Time}
use Rattle.record.specs.declared.header.Header.{Header}
use Rattle.told.specs.Told.{four, time_words}
use Rattle.told.specs.declared.put.TimeWords.{TimeWords}

-- a whole number, in two's complement
abbrev pub number4 : Option ℤ → List ℕ
number4 None = four 0 0 0 0
number4 (Some z) = four 0 0 1 (word_of z)

abbrev pub number_given : Bool → ℤ → Option ℤ
number_given defined z = cond defined (Some z) None

abbrev pub headed16 : ℕ → Header → TimeWords → TimeWords → List ℕ
headed16 i h t u =
    0 ∷ 0 ∷ i ∷ h.class ∷ h.group ∷ h.subclass ∷ h.version ∷ h.size ∷ t.defined ∷ t.day ∷ t.milli ∷ u.defined ∷ u.day ∷ u.milli ∷ 0 ∷ 0 ∷ []

-- a header, and where it starts
abbrev pub header16 : ℕ → Header → List ℕ
header16 i h = headed16 i h (time_words h.start) (time_words h.stop)

abbrev pub header_given : ℕ → ℕ → ℕ → ℕ → ℕ → Option Time → Option Time → Header
header_given class group subclass version size start stop =
    record { class = class; group = group; subclass = subclass; version = version; size = size; start = start; stop = stop }
