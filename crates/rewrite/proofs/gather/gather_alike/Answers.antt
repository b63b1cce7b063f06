-- `rewrite::gather::gather_alike` meets its contract: after each record the stretch is gathered as far as `Going` says, wherever it was so at the start; and
-- the first record has the size that is looked for, so that it goes on. Assumes nothing.
use Prim.Native.Nat.{◌+◌, ◌-◌}
use native.Mathlib.Omega.{arith}
use mathlib.Core.Path.{◌≡◌, refl, sym, ◌∙◌}
use Rattle.record.proofs.HeaderLaws.{size_there_lem}
use Rattle.demands.specs.Product.{size}
use Rattle.rewrite.specs.Gathering.{GatherOne, Going}
use Rattle.rewrite.proofs.GatherLaws.{going_least, going_come, going_one, gone_on, alike_first, alike_next}
use Rattle.rewrite.proofs.gather.gather_alike.Goals as goal
use Rattle.rewrite.proofs.gather.gather_alike.Goals.{At-loop-at, In-loop-at, After-size_at, Else-size_at-size}

-- the stretch of the caller, as far as here
known : (c : At-loop-at) → Going c.args.s.now c.requires.from c.args.to c.requires.n c.requires.table₀ c.requires.tally₀ (c.requires.k + c.loop-at.records) c.loop-at.at c.loop-at.table c.loop-at.tally
known c = let p = c.requires in c.loop-at.invariant.on p.from p.n p.k p.table₀ p.tally₀ p.place p.going

one : (c : In-loop-at) → GatherOne c.args.s.now c.loop-at.at (c.args.n + (c.loop-at.at - c.args.from)) c.loop-at.table c.loop-at.tally
one c =
    let p = c.requires in
    going_one (known (goal.at.In-loop-at c).At-loop-at) c.loop-at-test.true _ (omega (arith, p.place, p.going.here, c.loop-at.invariant.least))

-- the size that is read in a turn, and where it is that of the first
here : (c : After-size_at) → c.size_at.result ≡ size c.args.s.now c.loop-at.at
here c =
    c.size_at.ensures ∙ size_there_lem c.args.s.now c.loop-at.at (omega (arith, (one (goal.at.After-size_at c).In-loop-at).come))

sized : (c : Else-size_at-size) → c.size_at-size.result ≡ size c.args.s.now c.loop-at.at
sized c = sym c.if-size_at-size.false ∙ here (goal.at.Else-size_at-size c).After-size_at

pub loop-at-init : goal.loop-at-init
loop-at-init c =
    let p = c.requires in
    alike_first c.size_at-size.result (c.size_at-size.ensures ∙ size_there_lem c.args.s.now c.args.from (omega (arith, (going_one p.going p.inside _ refl).come)))

pub shape_of-table-then-size_at-size : goal.shape_of-table-then-size_at-size
shape_of-table-then-size_at-size c = (known (goal.at.shape_of-table-then-size_at-size c).At-loop-at).long ∙ sym c.requires.going.long

pub shape_of-tally-then-size_at-size : goal.shape_of-tally-then-size_at-size
shape_of-tally-then-size_at-size c = (known (goal.at.shape_of-tally-then-size_at-size c).At-loop-at).nine ∙ sym c.requires.going.nine

pub returns-then-size_at-size : goal.returns-then-size_at-size
returns-then-size_at-size c =
    let i = c.loop-at.invariant in
    record { further = gone_on i (λ e. c.if-size_at-size.true (here (goal.at.returns-then-size_at-size c).After-size_at ∙ sym e)); on = i.on }

pub overflow_sub-at : goal.overflow_sub-at
overflow_sub-at c = omega (arith, c.loop-at.invariant.least)

pub overflow_add-n : goal.overflow_add-n
overflow_add-n c = omega (arith, (one (goal.at.overflow_add-n c).In-loop-at).small)

pub gather_one-requires : goal.gather_one-requires
gather_one-requires c = one (goal.at.gather_one-requires c).In-loop-at

pub overflow_add-records : goal.overflow_add-records
overflow_add-records c = let k = known (goal.at.overflow_add-records c).At-loop-at in omega (arith, k.few, going_come k c.loop-at-test.true)

pub overflow_add-at : goal.overflow_add-at
overflow_add-at c = omega (arith, sized (goal.at.overflow_add-at c).Else-size_at-size, going_come (known (goal.at.overflow_add-at c).At-loop-at) c.loop-at-test.true)

pub loop-at-smaller : goal.loop-at-smaller
loop-at-smaller c = omega (arith, sized (goal.at.loop-at-smaller c).Else-size_at-size, going_least (known (goal.at.loop-at-smaller c).At-loop-at) c.loop-at-test.true, c.loop-at-test.true)

pub loop-at-preserved : goal.loop-at-preserved
loop-at-preserved c =
    alike_next c.loop-at.invariant c.loop-at-test.true (omega (arith, sized (goal.at.loop-at-preserved c).Else-size_at-size, going_least (known (goal.at.loop-at-preserved c).At-loop-at) c.loop-at-test.true)) (sized (goal.at.loop-at-preserved c).Else-size_at-size) _ _ c.gather_one.ensures

pub shape_of-table : goal.shape_of-table
shape_of-table c = (known (goal.at.shape_of-table c).At-loop-at).long ∙ sym c.requires.going.long

pub shape_of-tally : goal.shape_of-tally
shape_of-tally c = (known (goal.at.shape_of-tally c).At-loop-at).nine ∙ sym c.requires.going.nine

pub returns : goal.returns
returns c = record { further = omega (arith, c.requires.inside, c.loop-at-test.false); on = c.loop-at.invariant.on }
