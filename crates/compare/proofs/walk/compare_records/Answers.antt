-- `compare::walk::compare_records` meets its contract: what is left says the same as the whole. Assumes nothing.
use native.Mathlib.Omega.{arith}
use mathlib.Core.Path.{◌≡◌, ◌∙◌}
use Rattle.record.proofs.HeaderLaws.{size_there_lem}
use Rattle.demands.specs.Product.{size}
use Rattle.compare.proofs.StepLaws.{compare_first, compare_stands, compare_least, compare_on, compare_missing, compare_alike}
use Rattle.compare.proofs.walk.compare_records.Goals as goal
use Rattle.compare.proofs.walk.compare_records.Goals.{After-size_at-size}

pub loop-at-init : goal.loop-at-init
loop-at-init c = compare_first c.requires

size_is : (c : After-size_at-size) → c.size_at-size.result ≡ size c.args.cut.now c.loop-at.at
size_is c =
    c.size_at-size.ensures ∙ size_there_lem c.args.cut.now c.loop-at.at (omega (arith, (compare_stands c.loop-at.invariant c.loop-at-test.true).header))

pub turn-requires : goal.turn-requires
turn-requires c = record { small = c.requires.small; left = c.loop-at.invariant.left; inside = c.loop-at-test.true; sized = size_is c }

pub loop-at-smaller : goal.loop-at-smaller
loop-at-smaller c = omega (arith, size_is (goal.at.loop-at-smaller c).After-size_at-size, compare_least c.loop-at.invariant c.loop-at-test.true, c.loop-at-test.true)

pub loop-at-preserved : goal.loop-at-preserved
loop-at-preserved c = compare_on c.loop-at.invariant _ _ c.in-Some.ensures

pub returns-then-next_fixed-original : goal.returns-then-next_fixed-original
returns-then-next_fixed-original c = compare_missing c.loop-at.invariant c.loop-at-test.false c.next_fixed.result c.next_fixed.ensures c.if-next_fixed-original.true

pub returns : goal.returns
returns c = compare_alike c.loop-at.invariant c.loop-at-test.false c.next_fixed.result c.next_fixed.ensures c.if-next_fixed-original.false
