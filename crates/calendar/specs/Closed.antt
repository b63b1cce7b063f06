-- The closed forms that the code computes. A reader need not believe them: each is proved equal to what specs/Calendar.antt says.
-- Assumes nothing.
use Rattle.std.specs.Prelude.{ℕ, ◌+◌, ◌-◌, ◌*◌, ◌/◌, ◌%◌, cond, ◌||◌, eqb, ltb}

-- the day of a year, counted from 0, if each February had 29 days
abbrev pub layout_of : ℕ → ℕ → ℕ
layout_of d y = cond (eqb (y % 4) 0) d (cond (ltb d 59) d (d + 1))

abbrev pub month_at : ℕ → ℕ
month_at d = cond (ltb d 31) 1 (cond (ltb d 60) 2 ((5 * (d - 60) + 2) / 153 + 3))

abbrev pub start_of : ℕ → ℕ
start_of m = cond (ltb m 3) (31 * (m - 1)) ((153 * (m - 3) + 2) / 5 + 60)

abbrev pub shift_of : ℕ → ℕ → ℕ
shift_of y m = cond (eqb (y % 4) 0 || ltb m 3) 0 1

-- the number by the rule of four years, less one from 1 March 2100 on, since 29 February 2100 is no day
abbrev pub counted : ℕ → ℕ
counted t = t - t / 36585

unfoldable pub closed_number : ℕ → ℕ → ℕ → ℕ
closed_number y m d = counted ((1461 * y + 3) / 4 + (start_of m + (d - 1) - shift_of y m))
