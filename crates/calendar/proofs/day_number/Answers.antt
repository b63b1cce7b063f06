-- `calendar::day_number` meets its contract: each refusal is a date that has no day number, and the number that is left is the closed one.
-- Assumes nothing.
use mathlib.Core.Path.{◌≡◌, sym, ap, ◌∙◌}
use mathlib.Core.Bool.{true}
use native.Mathlib.Omega.{arith}
use borrow.Author.Tests.{lt-leb, not-true, not-false}
use Rattle.calendar.specs.declared.Date.{Date}
use Rattle.calendar.specs.Said.{answer}
use Rattle.calendar.specs.Calendar.{is_date, days_to, has_day}
use Rattle.calendar.proofs.Dates.{valid, valid_day, year_late, has_day_lem, no_day}
use Rattle.calendar.proofs.Closed.{closed_of}
use Rattle.calendar.proofs.day_number.Goals as goal
use Rattle.calendar.proofs.day_number.Goals.{Else-not-is_date, After-closed_number-n}

-- what is known once the date is seen to be one, and once its number is found
dated : (c : Else-not-is_date) → is_date c.args.date ≡ true
dated c = sym c.is_date.ensures ∙ not-false c.is_date.result c.if-not-is_date.false-raw

abbrev day : After-closed_number-n → Date
day c = c.args.date

number : (c : After-closed_number-n) → c.closed_number-n.result ≡ days_to (day c)
number c =
    c.closed_number-n.ensures
    ∙ closed_of (day c) (valid (day c) (dated (goal.at.After-closed_number-n c).Else-not-is_date)) c.if-year-lt2000.false c.if-year-gt2179.false

pub returns-then-not-is_date : goal.returns-then-not-is_date
unfolding has_day
returns-then-not-is_date c = simp (sym c.is_date.ensures ∙ not-true c.is_date.result c.if-not-is_date.true-raw)

pub returns-then-year-lt2000 : goal.returns-then-year-lt2000
unfolding has_day
returns-then-year-lt2000 c = simp (dated (goal.at.returns-then-year-lt2000 c).Else-not-is_date, lt-leb _ _ c.if-year-lt2000.true)

pub returns-then-year-gt2179 : goal.returns-then-year-gt2179
returns-then-year-gt2179 c = simp (no_day c.args.date (omega (arith, year_late c.args.date c.if-year-gt2179.true)))

pub closed_number-n-requires : goal.closed_number-n-requires
closed_number-n-requires c =
    let x = c.args.date in
    let v = valid x (dated (goal.at.closed_number-n-requires c).Else-not-is_date) in
    (omega arith, v.month_from, v.month_to, v.day_from, valid_day x v)

pub returns-then-n-gt65535 : goal.returns-then-n-gt65535
returns-then-n-gt65535 c = simp (no_day (day (goal.at.returns-then-n-gt65535 c).After-closed_number-n) (omega (arith, number (goal.at.returns-then-n-gt65535 c).After-closed_number-n)))

pub returns : goal.returns
returns c = ap answer (number (goal.at.returns c).After-closed_number-n) ∙ simp (has_day_lem (day (goal.at.returns c).After-closed_number-n) (dated (goal.at.returns c).Else-not-is_date) (omega arith) (omega (arith, number (goal.at.returns c).After-closed_number-n)))
