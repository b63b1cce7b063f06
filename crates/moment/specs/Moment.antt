-- THE LINE OF MILLISECONDS (02, request Twelve: "the milliseconds of gap between one stop and the next start within a product, and of overlap, both as whole
-- numbers. Pairs with an undefined time are counted apart. .. A gap across one of request Two's days counts that day's extra second"). Assumes nothing.
use Rattle.std.specs.Prelude.{ℕ, zero, suc, ◌+◌, ◌-◌, ◌*◌, cond}
use Rattle.calendar.specs.Calendar.{leap_day}
use Rattle.std.specs.declared.option.Option.TheVariants.{Some, None}
use Rattle.std.specs.declared.option.Option.{Option}
use Rattle.meter.specs.declared.time.Time.{Time}

-- the milliseconds that the days before day d have over 86,400,000 each: "that day's extra second"
unfoldable pub extra_before : ℕ → ℕ
extra_before zero = 0
extra_before (suc d) = extra_before d + cond (leap_day d) 1000 0

-- where millisecond m of day d stands on the line, whose 0 is the start of day 0
abbrev pub on_line : ℕ → ℕ → ℕ
on_line d m = d * 86400000 + extra_before d + m

-- from one stop to the next start. The difference of two numbers is 0 where the first is the smaller: a gap is where the start is later, an overlap where it
-- is earlier
abbrev pub gap_between : Option Time → Option Time → ℕ
gap_between (Some t) (Some u) = on_line u.day u.milli - on_line t.day t.milli
gap_between (Some t) None = 0
gap_between None u = 0

abbrev pub overlap_between : Option Time → Option Time → ℕ
overlap_between (Some t) (Some u) = on_line t.day t.milli - on_line u.day u.milli
overlap_between (Some t) None = 0
overlap_between None u = 0

-- "Pairs with an undefined time are counted apart": 1 where a time is
abbrev pub undefined_between : Option Time → Option Time → ℕ
undefined_between (Some t) (Some u) = 0
undefined_between (Some t) None = 1
undefined_between None u = 1
