-- The dates of the five days that end in a leap second (02, request Two: "days 2191, 3287, 4564, 5659 and 6209 .. of those dates"): the last days of 2005,
-- 2008 and 2016 and the last of June of 2012 and 2015. Computed: the days to each date are counted, and the date of that count is it. Assumes nothing.
use mathlib.Core.Path.{◌≡◌, refl, sym, ap, ◌∙◌}
use mathlib.Core.Bool.{true}
use Prim.Native.Nat.{ℕ, ◌≤◌}
use native.Mathlib.Omega.{arith}
use Rattle.calendar.specs.declared.Date.{Date}
use Rattle.calendar.specs.Calendar.{date, is_date, date_of, days_to, years_before, months_before}
use Rattle.calendar.proofs.Dates.{date_number}

the_date : (x : Date) (n : ℕ) → is_date x ≡ true → 2000 ≤ x.year → days_to x ≡ n → date_of n ≡ x
the_date x n v y e = ap date_of (sym e) ∙ date_number x v y

pub end_of_2005 : date_of 2191 ≡ date 2005 12 31
unfolding is_date days_to years_before months_before
end_of_2005 = the_date (date 2005 12 31) 2191 refl (omega arith) refl

pub end_of_2008 : date_of 3287 ≡ date 2008 12 31
unfolding is_date days_to years_before months_before
end_of_2008 = the_date (date 2008 12 31) 3287 refl (omega arith) refl

pub june_of_2012 : date_of 4564 ≡ date 2012 6 30
unfolding is_date days_to years_before months_before
june_of_2012 = the_date (date 2012 6 30) 4564 refl (omega arith) refl

pub june_of_2015 : date_of 5659 ≡ date 2015 6 30
unfolding is_date days_to years_before months_before
june_of_2015 = the_date (date 2015 6 30) 5659 refl (omega arith) refl

pub end_of_2016 : date_of 6209 ≡ date 2016 12 31
unfolding is_date days_to years_before months_before
end_of_2016 = the_date (date 2016 12 31) 6209 refl (omega arith) refl
