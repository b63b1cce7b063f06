-- `meter::time::last_milli` meets its contract: by whether the day ends in a leap second. Assumes nothing.
use Prim.Native.Nat.{ℕ}
use mathlib.Core.Path.{sym, ap, ◌∙◌}
use mathlib.Core.Bool.{Bool, cond}
use Rattle.meter.specs.Time.{last_milli}
use Rattle.meter.proofs.time.last_milli.Goals as goal

abbrev last : Bool → ℕ
last b = cond b 86400999 86399999

pub returns-then-is_leap_day : goal.returns-then-is_leap_day
unfolding last_milli
returns-then-is_leap_day c = ap last (sym c.if-is_leap_day.true ∙ c.is_leap_day.ensures)

pub returns-else-is_leap_day : goal.returns-else-is_leap_day
unfolding last_milli
returns-else-is_leap_day c = ap last (sym c.if-is_leap_day.false ∙ c.is_leap_day.ensures)
