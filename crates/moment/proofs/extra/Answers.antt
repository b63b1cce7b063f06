-- `moment::extra` meets its contract: the test in turn. Assumes nothing.
use native.Mathlib.Omega.{arith}
use borrow.Author.Tests.{le-ltb, lt-ltb}
use Rattle.moment.specs.Pairing.{extra_of}
use Rattle.moment.proofs.extra.Goals as goal

pub returns-then-leap-day : goal.returns-then-leap-day
unfolding extra_of
returns-then-leap-day c = (rw (lt-ltb _ _ c.if-leap-day.true), omega arith)

pub returns : goal.returns
unfolding extra_of
returns c = (rw (le-ltb _ _ c.if-leap-day.false), omega arith)
