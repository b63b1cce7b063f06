-- THE MARKED CASES of 01 ("Either side of the line", "Marked for proof"), as one table over the definitions of all crates. Assumes nothing.
use Rattle.std.specs.Prelude.{ℕ, ◌≡◌, Bool, true, false, List, [], ◌∷◌, ℤ, pos, negsuc}
use Rattle.calendar.specs.Said.{answer}
use Rattle.calendar.specs.Calendar.{date, date_of}
use Rattle.calendar.specs.declared.Date.{Date}
use Rattle.meter.specs.Time.{is_time}
use Rattle.std.specs.declared.option.Option.TheVariants.{Some}
use Rattle.meter.specs.Numeral as S
use Rattle.meter.specs.Instant as T
use Rattle.meter.specs.Rounding.{rounded_of}
use Rattle.record.specs.Follow.{may_follow}

-- a day is a date; a millisecond of a day is in or out; an integer with a scale, rounded to some decimals, is a whole number; a class may follow
-- another or may not
pub data Case : Type 0 where
  day_is : ℕ → Date → Case
  milli_is : ℕ → ℕ → Bool → Case
  rounds_to : ℤ → ℤ → ℤ → ℤ → Case
  follows : ℕ → ℕ → Bool → Case

abbrev pub Holds : Case → Type 0
Holds (day_is n d) = date_of n ≡ d
Holds (milli_is n m in?) = is_time (T.At n m) ≡ in?
Holds (rounds_to i s d m) = rounded_of (S.Number i s) d ≡ answer (Some m)
Holds (follows last next in?) = may_follow last next ≡ in?

abbrev pub Each : List Case → Type 0
Each [] = Unit
Each (c ∷ l) = Holds c × Each l

abbrev pub marked : List Case
marked =
    day_is 0 (date 2000 1 1)
    ∷ day_is 59 (date 2000 2 29)
    ∷ day_is 60 (date 2000 3 1)
    ∷ day_is 366 (date 2001 1 1)
    ∷ milli_is 0 86399999 true
    ∷ milli_is 0 86400000 false
    ∷ rounds_to (pos 5) (pos 1) (pos 0) (pos 1)
    ∷ rounds_to (negsuc 4) (pos 1) (pos 0) (negsuc 0)
    ∷ rounds_to (pos 149) (pos 2) (pos 1) (pos 15)
    ∷ rounds_to (pos 1) (pos 3) (pos 3) (pos 1)
    ∷ follows 3 2 false
    ∷ follows 7 6 true
    ∷ []
