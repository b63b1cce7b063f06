-- `meter::general::last_second` meets its contract: the tests in turn. Assumes nothing.
use Prim.Native.Nat.{ℕ}
use mathlib.Core.Path.{sym, ap, ◌∙◌}
use mathlib.Core.Bool.{Bool, cond}
use borrow.Author.Tests.{eq-eqb, ne_eqb}
use Rattle.meter.specs.General.{last_second}
use Rattle.meter.proofs.general.last_second.Goals as goal

abbrev last : Bool → ℕ
last b = cond b 60 59

pub returns-then-hour-ne23 : goal.returns-then-hour-ne23
unfolding last_second
returns-then-hour-ne23 c = let a = c.args in rw (ne_eqb a.hour 23 c.if-hour-ne23.true)

pub returns-then-minute-ne59 : goal.returns-then-minute-ne59
unfolding last_second
returns-then-minute-ne59 c = let a = c.args in rw (eq-eqb a.hour 23 c.if-hour-ne23.false, ne_eqb a.minute 59 c.if-minute-ne59.true)

pub returns-then-is_leap_date : goal.returns-then-is_leap_date
unfolding last_second
returns-then-is_leap_date c =
    let a = c.args in
    rw (eq-eqb a.hour 23 c.if-hour-ne23.false, eq-eqb a.minute 59 c.if-minute-ne59.false) (ap last (sym c.if-is_leap_date.true ∙ c.is_leap_date.ensures))

pub returns-else-is_leap_date : goal.returns-else-is_leap_date
unfolding last_second
returns-else-is_leap_date c =
    let a = c.args in
    rw (eq-eqb a.hour 23 c.if-hour-ne23.false, eq-eqb a.minute 59 c.if-minute-ne59.false) (ap last (sym c.if-is_leap_date.false ∙ c.is_leap_date.ensures))
