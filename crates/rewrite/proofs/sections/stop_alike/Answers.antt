-- `rewrite::sections::stop_alike` meets its contract: after each record the last stop is as far as `Stopping` says; and the first record has the size that
-- is looked for, so that it goes on. Assumes nothing.
use native.Mathlib.Omega.{arith}
use mathlib.Core.Path.{◌≡◌, sym, ◌∙◌}
use Rattle.record.proofs.HeaderLaws.{size_there_lem}
use Rattle.demands.specs.Product.{size}
use Rattle.rewrite.proofs.SectionLaws.{gone_on, stop_first, stop_next, left_come, left_least, left_most}
use Rattle.rewrite.proofs.sections.stop_alike.Goals as goal
use Rattle.rewrite.proofs.sections.stop_alike.Goals.{After-size_at, Else-size_at-size}

-- the size that is read in a turn, and where it is that of the first
here : (c : After-size_at) → c.size_at.result ≡ size c.args.s.now c.loop-at.at
here c =
    let i = c.loop-at in
    c.size_at.ensures ∙ size_there_lem c.args.s.now i.at (omega (arith, left_come i.invariant.on.after.left c.loop-at-test.true))

sized : (c : Else-size_at-size) → c.size_at-size.result ≡ size c.args.s.now c.loop-at.at
sized c = sym c.if-size_at-size.false ∙ here (goal.at.Else-size_at-size c).After-size_at

pub loop-at-init : goal.loop-at-init
loop-at-init c =
    let p = c.requires in
    record {
      on = stop_first p.0.left c.args.before p.0.head p.0.come;
      from = omega arith;
      begun = λ _. c.size_at-size.ensures ∙ size_there_lem c.args.s.now c.args.from (omega (arith, left_come p.0.left p.1));
    }

pub returns-then-size_at-size : goal.returns-then-size_at-size
returns-then-size_at-size c =
    let i = c.loop-at.invariant in
    record { further = gone_on i (λ e. c.if-size_at-size.true (here (goal.at.returns-then-size_at-size c).After-size_at ∙ sym e)); on = i.on }

pub later_place-place-requires : goal.later_place-place-requires
later_place-place-requires c =
    let i = c.loop-at.invariant.on.after in
    (omega (arith, i.head), left_come i.left c.loop-at-test.true)

pub overflow_add-at : goal.overflow_add-at
overflow_add-at c = let i = c.loop-at.invariant.on.after.left in omega (arith, sized (goal.at.overflow_add-at c).Else-size_at-size, left_most i c.loop-at-test.true, i.small)

pub loop-at-smaller : goal.loop-at-smaller
loop-at-smaller c = omega (arith, sized (goal.at.loop-at-smaller c).Else-size_at-size, left_least c.loop-at.invariant.on.after.left c.loop-at-test.true, c.loop-at-test.true)

pub loop-at-preserved : goal.loop-at-preserved
loop-at-preserved c =
    let i = c.loop-at in
    record {
      on = stop_next i.invariant.on c.later_place-place.result _ c.loop-at-test.true (sized (goal.at.loop-at-preserved c).Else-size_at-size) c.later_place-place.ensures;
      from = omega (arith, i.invariant.from);
      begun = λ e. absurd (omega (arith, i.invariant.from, sized (goal.at.loop-at-preserved c).Else-size_at-size, left_least i.invariant.on.after.left c.loop-at-test.true));
    }

pub returns : goal.returns
returns c = record { further = omega (arith, c.requires.1, c.loop-at-test.false); on = c.loop-at.invariant.on }
