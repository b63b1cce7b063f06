-- `calendar::shift` meets its contract: each return is the definition at the tests that led to it.
-- Assumes nothing.
use borrow.Author.Tests.{eq-eqb, ne_eqb, lt-ltb, le-ltb}
use Rattle.calendar.proofs.shift.Goals as goal

pub returns-then-year-eq0 : goal.returns-then-year-eq0
returns-then-year-eq0 c = simp (eq-eqb _ _ c.if-year-eq0.true)

pub returns-then-month-lt3 : goal.returns-then-month-lt3
returns-then-month-lt3 c = simp (ne_eqb _ _ c.if-year-eq0.false, lt-ltb _ _ c.if-month-lt3.true)

pub returns-else-month-lt3 : goal.returns-else-month-lt3
returns-else-month-lt3 c = simp (ne_eqb _ _ c.if-year-eq0.false, le-ltb _ _ c.if-month-lt3.false)
