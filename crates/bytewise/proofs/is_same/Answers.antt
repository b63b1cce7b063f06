-- `bytewise::is_same` meets its contract: a part that is not all there is not the same as another, and of parts that are there `is_within` decides.
-- Assumes nothing.
use native.Mathlib.Omega.{arith}
use Rattle.bytewise.proofs.CompareLaws.{no_it_is, parts_same}
use Rattle.bytewise.proofs.is_same.Goals as goal

pub returns-then-s-from : goal.returns-then-s-from
returns-then-s-from c = no_it_is (λ p. omega (arith, p.first, c.if-s-from.true))

pub returns-then-s-from-2 : goal.returns-then-s-from-2
returns-then-s-from-2 c = no_it_is (λ p. omega (arith, p.first, c.if-s-from-2.true))

pub returns-then-t-at : goal.returns-then-t-at
returns-then-t-at c = no_it_is (λ p. omega (arith, p.second, c.if-t-at.true))

pub returns-then-t-at-2 : goal.returns-then-t-at-2
returns-then-t-at-2 c = no_it_is (λ p. omega (arith, p.second, c.if-t-at-2.true))

pub returns : goal.returns
returns c =
    parts_same (omega (arith, c.if-s-from.false, c.if-s-from-2.false)) (omega (arith, c.if-t-at.false, c.if-t-at-2.false)) c.is_within.ensures
