-- The Gregorian calendar (01, "MPHR": "Gregorian calendar, years 0000 to 9999"; "Times and scaled numbers": "day from 1 January 2000").
-- Assumes nothing.
use Rattle.std.specs.Prelude.{ℕ, zero, suc, ◌+◌, ◌-◌, ◌%◌, Bool, cond, not, ◌&&◌, ◌||◌, eqb, ltb, leb}
use Rattle.calendar.specs.declared.Date.{Date}
use Rattle.calendar.specs.Said.{Said, answer, refusal}

-- every fourth year but of the full hundreds only every fourth
abbrev pub leap : ℕ → Bool
leap y = eqb (y % 4) 0 && (not (eqb (y % 100) 0) || eqb (y % 400) 0)

-- the days of month m of year y
abbrev pub days_in : ℕ → ℕ → ℕ
days_in y m = cond (eqb m 2) (cond (leap y) 29 28) (cond (eqb m 4 || eqb m 6 || eqb m 9 || eqb m 11) 30 31)

abbrev pub date : ℕ → ℕ → ℕ → Date
date y m d = record { year = y; month = m; day = d }

-- a date of the years 0000 to 9999
unfoldable pub is_date : Date → Bool
is_date x = leb x.year 9999 && ((leb 1 x.month && leb x.month 12) && (leb 1 x.day && leb x.day (days_in x.year x.month)))

-- the day after
abbrev pub next : Date → Date
next x =
    cond (ltb x.day (days_in x.year x.month)) (date x.year x.month (suc x.day))
    (cond (ltb x.month 12) (date x.year (suc x.month) 1) (date (suc x.year) 1 1))

-- day 0 is 1 January 2000, and each next day is the day after
unfoldable pub date_of : ℕ → Date
date_of zero = date 2000 1 1
date_of (suc n) = next (date_of n)

-- the days of the first m months of year y
unfoldable pub months_before : ℕ → ℕ → ℕ
months_before y zero = 0
months_before y (suc m) = months_before y m + days_in y (suc m)

-- the days of the first k years from 2000 on, each with its twelve months
unfoldable pub years_before : ℕ → ℕ
years_before zero = 0
years_before (suc k) = years_before k + months_before (2000 + k) 12

-- the days from 1 January 2000 to a date
unfoldable pub days_to : Date → ℕ
days_to x = years_before (x.year - 2000) + months_before x.year (x.month - 1) + (x.day - 1)

-- a date that has a day number: of 2000 or later, and day 65535 or earlier
unfoldable pub has_day : Date → Bool
has_day x = is_date x && (leb 2000 x.year && leb (days_to x) 65535)

-- its day number; a date outside days 0..65535 is refused 21
abbrev pub day_number_of : Date → Said ℕ
day_number_of x = cond (has_day x) (answer (days_to x)) (refusal 21 0)

-- the days that end in a leap second (02, request Two: "days 2191, 3287, 4564, 5659 and 6209"), and the dates of these days
unfoldable pub leap_day : ℕ → Bool
leap_day n = eqb n 2191 || (eqb n 3287 || (eqb n 4564 || (eqb n 5659 || eqb n 6209)))

unfoldable pub leap_date : Date → Bool
leap_date x = has_day x && leap_day (days_to x)
