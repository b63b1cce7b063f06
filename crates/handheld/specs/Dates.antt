-- Dates and day numbers for hosts that are not Rattle: the promises of `calendar`, told as numbers. Assumes nothing.
use Rattle.std.specs.Prelude.{ℕ, ◌≡◌, Bool, true, false, List}
use Rattle.calendar.specs.Calendar.{is_date, date_of, day_number_of}
use Rattle.calendar.specs.declared.Date.{Date}
use Rattle.std.specs.declared.result.Result.TheVariants.{Ok, Err}
use Rattle.std.specs.declared.result.Result.{Result}
use Rattle.calendar.specs.declared.Refusal.{Refusal}
use Rattle.calendar.specs.Said.{said}
use Rattle.told.specs.Told.{Told, six, refused, one4}

-- 1 for yes, 0 for no
abbrev pub yes4 : Bool → List ℕ
yes4 true = one4 1
yes4 false = one4 0

abbrev pub IsDateTold : Date → List ℕ → Type 0
IsDateTold x numbers = Told (λ (r : Bool). r ≡ is_date x) yes4 numbers

-- year, month and day
abbrev pub date6 : Date → List ℕ
date6 x = six x.year x.month x.day

abbrev pub DateTold : ℕ → List ℕ → Type 0
DateTold n numbers = Told (λ (r : Date). r ≡ date_of n) date6 numbers

-- the day number
abbrev pub day_said : Result ℕ Refusal → List ℕ
day_said (Ok n) = one4 n
day_said (Err r) = refused 4 r

abbrev pub DayTold : Date → List ℕ → Type 0
DayTold x numbers = Told (λ (r : Result ℕ Refusal). said r ≡ day_number_of x) day_said numbers
