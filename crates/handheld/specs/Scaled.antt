-- Scaled numbers for hosts that are not Rattle: the promises of `meter`, told as numbers, integer and scale in two's complement. Assumes nothing.
use Rattle.std.specs.Prelude.{ℕ, ◌≡◌, List, ℤ, Float}
use Rattle.meter.specs.Integer.{word_of}
use Rattle.meter.specs.Scaled.{scaled_read_at, WritesScaled}
use Rattle.meter.specs.Rounding.{rounded_of}
use Rattle.meter.specs.Reading.{reading_of}
use Rattle.std.specs.declared.option.Option.TheVariants.{Some, None}
use Rattle.std.specs.declared.result.Result.TheVariants.{Ok, Err}
use Rattle.std.specs.declared.option.Option.{Option}
use Rattle.std.specs.declared.result.Result.{Result}
use Rattle.calendar.specs.declared.Refusal.{Refusal}
use Rattle.meter.specs.declared.scaled.Scaled.{Scaled}
use Rattle.meter.specs.Numeral as S
use Rattle.calendar.specs.Said.{said}
use Rattle.meter.specs.declared.scaled.Reading.{Reading}
use Rattle.meter.specs.declared.scaled.Reading.TheVariants as M
use Rattle.told.specs.Told.{Told, four, six, refused, one4, written_said}
use Rattle.told.specs.Given.{is_set}

abbrev pub scaled6 : Option Scaled → List ℕ
scaled6 None = six 0 0 0
scaled6 (Some t) = six 1 (word_of t.integer) (word_of t.scale)

abbrev pub scaled_said : Result (Option Scaled) Refusal → List ℕ
scaled_said (Ok x) = scaled6 x
scaled_said (Err r) = refused 6 r

abbrev pub ScaledTold : List ℕ → ℕ → ℕ → ℕ → List ℕ → Type 0
ScaledTold a at width signed numbers = Told (λ (r : Result (Option Scaled) Refusal). said r ≡ scaled_read_at (is_set signed) width a at) scaled_said numbers

abbrev pub WriteScaledTold : List ℕ → ℕ → ℕ → Option Scaled → List ℕ → List ℕ → Type 0
WriteScaledTold room width signed x exit numbers = Told (λ (r : Result ℕ Refusal). WritesScaled room (is_set signed) width x r exit) written_said numbers

abbrev pub decimal4 : Option ℤ → List ℕ
decimal4 None = four 0 0 0 0
decimal4 (Some z) = four 0 0 1 (word_of z)

abbrev pub rounded_said : Result (Option ℤ) Refusal → List ℕ
rounded_said (Ok x) = decimal4 x
rounded_said (Err r) = refused 4 r

abbrev pub RoundedTold : Option Scaled → ℤ → List ℕ → Type 0
RoundedTold x d numbers = Told (λ (r : Result (Option ℤ) Refusal). said r ≡ rounded_of x d) rounded_said numbers

-- 0 missing, 1 whole, 2 between; the reading goes into the lent number, which is kept where there is none
abbrev pub reading4 : Reading → List ℕ
reading4 M.Missing = one4 0
reading4 (M.Whole v) = one4 1
reading4 (M.Between v) = one4 2

abbrev pub reading_said : Result Reading Refusal → List ℕ
reading_said (Ok x) = reading4 x
reading_said (Err r) = refused 4 r

abbrev pub reading_left : Float → Reading → Float
reading_left old M.Missing = old
reading_left old (M.Whole v) = v
reading_left old (M.Between v) = v

abbrev pub shown_left : Float → Result Reading Refusal → Float
shown_left old (Ok x) = reading_left old x
shown_left old (Err r) = old

abbrev pub ReadingTold : Option Scaled → Float → Float → List ℕ → Type 0
ReadingTold x old new numbers = Told (λ (r : Result Reading Refusal). (said r ≡ reading_of x) × (new ≡ shown_left old r)) reading_said numbers
