-- `mphr::names::agrees` meets its contract, by cases on the length. Assumes nothing.
use borrow.Author.Tests.{le-leb, lt-leb}
use Rattle.mphr.proofs.names.agrees.Goals as goal

pub returns-then-name-at : goal.returns-then-name-at
returns-then-name-at c = simp (lt-leb _ _ c.if-name-at.true)

pub returns : goal.returns
returns c = rw c.eight.ensures (simp (le-leb _ _ c.if-name-at.false))
