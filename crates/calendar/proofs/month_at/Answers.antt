-- `calendar::month_at` meets its contract: each return is the definition at the tests that led to it, and its sums fit.
-- Assumes nothing.
use borrow.Author.Tests.{lt-ltb, le-ltb}
use Rattle.calendar.proofs.month_at.Goals as goal

pub returns-then-day-lt31 : goal.returns-then-day-lt31
returns-then-day-lt31 c = simp (lt-ltb _ _ c.if-day-lt31.true)

pub returns-then-day-lt60 : goal.returns-then-day-lt60
returns-then-day-lt60 c = simp (le-ltb _ _ c.if-day-lt31.false, lt-ltb _ _ c.if-day-lt60.true)

pub returns-else-day-lt60 : goal.returns-else-day-lt60
returns-else-day-lt60 c = simp (le-ltb _ _ c.if-day-lt31.false, le-ltb _ _ c.if-day-lt60.false)
