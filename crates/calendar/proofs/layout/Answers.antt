-- `calendar::layout` meets its contract: each return is the definition at the tests that led to it.
-- Assumes nothing.
use borrow.Author.Tests.{eq-eqb, ne_eqb, lt-ltb, le-ltb}
use Rattle.calendar.proofs.layout.Goals as goal

pub returns-then-year-eq0 : goal.returns-then-year-eq0
returns-then-year-eq0 c = simp (eq-eqb _ _ c.if-year-eq0.true)

pub returns-then-day-lt59 : goal.returns-then-day-lt59
returns-then-day-lt59 c = simp (ne_eqb _ _ c.if-year-eq0.false, lt-ltb _ _ c.if-day-lt59.true)

pub returns-else-day-lt59 : goal.returns-else-day-lt59
returns-else-day-lt59 c = simp (ne_eqb _ _ c.if-year-eq0.false, le-ltb _ _ c.if-day-lt59.false)
