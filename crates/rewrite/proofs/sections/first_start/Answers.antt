-- `rewrite::sections::first_start` meets its contract: the records from `from` on have the first start of those from `at` on. Assumes nothing.
use native.Mathlib.Omega.{arith}
use mathlib.Core.Path.{◌≡◌, refl, sym, ◌∙◌}
use Rattle.record.proofs.HeaderLaws.{size_there_lem}
use Rattle.demands.specs.Product.{size}
use Rattle.rewrite.proofs.SectionLaws.{start_first, start_next, start_found, start_none, left_come, left_least, left_most}
use Rattle.rewrite.proofs.sections.first_start.Goals as goal
use Rattle.rewrite.proofs.sections.first_start.Goals.{After-size_at-at}

size_is : (c : After-size_at-at) → c.size_at-at.result ≡ size c.args.s.now c.loop-at.at
size_is c =
    let i = c.loop-at in
    c.size_at-at.ensures ∙ size_there_lem c.args.s.now i.at (omega (arith, left_come i.invariant.left c.loop-at-test.true))

pub loop-at-init : goal.loop-at-init
loop-at-init c = start_first c.requires

pub overflow_add-at : goal.overflow_add-at
overflow_add-at c = let i = c.loop-at.invariant.left in omega (arith, left_come i c.loop-at-test.true, i.small)

pub time_at-requires : goal.time_at-requires
time_at-requires c = omega (arith, left_come c.loop-at.invariant.left c.loop-at-test.true)

pub overflow_add-at-in-None : goal.overflow_add-at-in-None
overflow_add-at-in-None c = let i = c.loop-at.invariant.left in omega (arith, size_is c, left_most i c.loop-at-test.true, i.small)

pub loop-at-smaller : goal.loop-at-smaller
loop-at-smaller c = omega (arith, size_is c, left_least c.loop-at.invariant.left c.loop-at-test.true, c.loop-at-test.true)

pub loop-at-preserved : goal.loop-at-preserved
loop-at-preserved c =
    start_next c.loop-at.invariant c.size_at-at.result c.loop-at-test.true (size_is c) (sym c.time_at.ensures ∙ c.in-None.is)

pub returns-in-Some : goal.returns-in-Some
returns-in-Some c =
    start_found c.loop-at.invariant _ c.in-Some.time.day c.in-Some.time.milli c.loop-at-test.true (sym c.in-Some.is ∙ c.time_at.ensures) refl

pub returns : goal.returns
returns c = start_none c.loop-at.invariant c.loop-at-test.false
