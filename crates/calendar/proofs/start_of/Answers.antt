-- `calendar::start_of` meets its contract: each return is the definition at the tests that led to it, and its sums fit.
-- Assumes nothing.
use borrow.Author.Tests.{lt-ltb, le-ltb}
use Rattle.calendar.proofs.start_of.Goals as goal

pub returns-then-month-lt3 : goal.returns-then-month-lt3
returns-then-month-lt3 c = simp (lt-ltb _ _ c.if-month-lt3.true)

pub returns-else-month-lt3 : goal.returns-else-month-lt3
returns-else-month-lt3 c = simp (le-ltb _ _ c.if-month-lt3.false)
