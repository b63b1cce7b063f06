-- `rewrite::copy::is_same_untimed` meets its contract: what is left of the two texts agrees exactly where the whole does. Assumes nothing.
use native.Mathlib.Omega.{arith}
use mathlib.Core.Path.{◌≡◌, ◌∙◌}
use borrow.Author.Tests.{not-true, not-false}
use Rattle.record.proofs.HeaderLaws.{size_there_lem}
use Rattle.demands.specs.Product.{size}
use Rattle.rewrite.proofs.UntimedLaws.{untiming_first, untiming_come, untiming_least, untiming_most, untimable, untiming_no, untiming_next, untiming_last}
use Rattle.rewrite.proofs.copy.is_same_untimed.Goals as goal
use Rattle.rewrite.proofs.copy.is_same_untimed.Goals.{After-size_at-size}

size_is : (c : After-size_at-size) → c.size_at-size.result ≡ size c.args.s.now c.loop-at.at
size_is c =
    let i = c.loop-at in
    c.size_at-size.ensures ∙ size_there_lem c.args.s.now i.at (omega (arith, untiming_come i.invariant c.loop-at-test.true))

pub loop-at-init : goal.loop-at-init
loop-at-init c = untiming_first c.requires

pub is_one_untimed-requires : goal.is_one_untimed-requires
is_one_untimed-requires c = untimable c.loop-at.invariant c.loop-at-test.true c.size_at-size.result (size_is c)

pub returns-then-not-is_one_untimed : goal.returns-then-not-is_one_untimed
returns-then-not-is_one_untimed c =
    untiming_no c.loop-at.invariant c.loop-at-test.true c.size_at-size.result (size_is (goal.at.returns-then-not-is_one_untimed c).After-size_at-size) c.is_one_untimed.ensures (not-true c.is_one_untimed.result c.if-not-is_one_untimed.true-raw)

pub overflow_add-at : goal.overflow_add-at
overflow_add-at c =
    let i = c.loop-at.invariant in
    omega (arith, size_is (goal.at.overflow_add-at c).After-size_at-size, untiming_most i c.loop-at-test.true, i.small)

pub loop-at-smaller : goal.loop-at-smaller
loop-at-smaller c =
    omega (arith, size_is (goal.at.loop-at-smaller c).After-size_at-size, untiming_least c.loop-at.invariant c.loop-at-test.true, c.loop-at-test.true)

pub loop-at-preserved : goal.loop-at-preserved
loop-at-preserved c =
    untiming_next c.loop-at.invariant c.loop-at-test.true c.size_at-size.result (size_is (goal.at.loop-at-preserved c).After-size_at-size) c.is_one_untimed.ensures (not-false c.is_one_untimed.result c.if-not-is_one_untimed.false-raw)

pub returns : goal.returns
returns c = untiming_last c.loop-at.invariant c.loop-at-test.false
