-- `calendar::date_of` meets its contract: what it computes is the closed date of proofs/Closed.antt, and that is the calendar's.
-- Assumes nothing.
use mathlib.Core.Path.{◌≡◌, ap, ◌∙◌}
use Prim.Native.Nat.{◌<◌}
use native.Mathlib.Omega.{arith}
use Rattle.calendar.specs.Closed.{month_at, start_of}
use Rattle.calendar.proofs.Closed.{place_small, month_from, month_to, start_to, start_near, dated_is}
use Rattle.calendar.proofs.date_of.Goals as goal
use Rattle.calendar.proofs.date_of.Goals.{After-layout-d, After-start_of-s}

-- the day of the layout is small, and the month's start is the layout's
small : (c : After-layout-d) → c.layout-d.result < 366
small c = omega (arith, c.layout-d.ensures, place_small c.args.day (omega arith))

start : (c : After-start_of-s) → c.start_of-s.result ≡ start_of (month_at c.layout-d.result)
start c = c.start_of-s.ensures ∙ ap start_of c.month_at-m.ensures

pub month_at-m-requires : goal.month_at-m-requires
month_at-m-requires c = omega (arith, small c)

pub start_of-s-requires : goal.start_of-s-requires
start_of-s-requires c = (omega (arith, c.month_at-m.ensures, month_from c.layout-d.result (small (goal.at.start_of-s-requires c).After-layout-d)), omega (arith, c.month_at-m.ensures, month_to c.layout-d.result (small (goal.at.start_of-s-requires c).After-layout-d)))

pub overflow_cast-result-2 : goal.overflow_cast-result-2
overflow_cast-result-2 c = omega (arith, c.month_at-m.ensures, month_to c.layout-d.result (small (goal.at.overflow_cast-result-2 c).After-layout-d))

pub overflow_sub-result : goal.overflow_sub-result
overflow_sub-result c = omega (arith, start c, start_to c.layout-d.result (small (goal.at.overflow_sub-result c).After-layout-d))

pub overflow_add-result-2 : goal.overflow_add-result-2
overflow_add-result-2 c = omega (arith, small (goal.at.overflow_add-result-2 c).After-layout-d)

pub overflow_cast-result-3 : goal.overflow_cast-result-3
overflow_cast-result-3 c = omega (arith, start c, start_near c.layout-d.result (small (goal.at.overflow_cast-result-3 c).After-layout-d))

pub returns : goal.returns
returns c =
    let n = c.args.day in
    simp (start c, c.month_at-m.ensures, c.layout-d.ensures) (dated_is n (omega arith))
