-- `finish::fill::fill_alike` meets its contract: after each row the list is as far as `Filling` says, wherever it was so at the start; and
-- the first record has the size that is looked for, so that the stretch goes on. Assumes nothing.
use Prim.Native.Nat.{◌<◌}
use native.Mathlib.Omega.{arith}
use mathlib.Core.Path.{◌≡◌, sym, ◌∙◌}
use lib.ListN.{length}
use Rattle.judge.specs.Table.{size_at}
use Rattle.finish.specs.Ahead.{Record}
use Rattle.finish.specs.Fill.{Filling}
use Rattle.finish.proofs.AheadLaws.{there}
use Rattle.finish.proofs.Filling.{record_at, filling_here, filling_next, moved_on, less}
use Rattle.finish.proofs.fill.fill_alike.Goals as goal
use Rattle.finish.proofs.fill.fill_alike.Goals.{At-loop-end, In-loop-end, After-size_at, Else-size_at-size}

-- a list that is as far, at the stretch's start and now
known : (c : At-loop-end) → Filling c.args.s.now c.requires.onward.rows₀ c.requires.onward.list c.loop-end.rows c.loop-end.counts c.loop-end.count c.loop-end.end
known c = c.loop-end.invariant.kept c.requires.onward.rows₀ c.requires.onward.list c.requires.onward.filling

inside : (c : In-loop-end) → c.loop-end.end < length c.args.s.now
inside c = omega (arith, c.loop-end-test.true, c.requires.most)

record-here : (c : In-loop-end) → Record c.args.s.now c.loop-end.end
record-here c = record_at (known (goal.at.In-loop-end c).At-loop-end) (inside c)

-- the size that is read in a turn, and where it is that of the first
here : (c : After-size_at) → c.size_at.result ≡ size_at c.args.s.now c.loop-end.end
here c = c.size_at.ensures ∙ there (record-here (goal.at.After-size_at c).In-loop-end)

sized : (c : Else-size_at-size) → c.size_at-size.result ≡ size_at c.args.s.now c.loop-end.end
sized c = sym c.if-size_at-size.false ∙ here (goal.at.Else-size_at-size c).After-size_at

pub loop-end-init : goal.loop-end-init
loop-end-init c =
    let p = c.requires in
    record { kept = λ rows₀ l f. f; from = omega arith; begun = λ _. c.size_at-size.ensures ∙ there (record_at p.onward.filling p.onward.inside) }

pub shape_of-rows-then-size_at-size : goal.shape_of-rows-then-size_at-size
shape_of-rows-then-size_at-size c = (known (goal.at.shape_of-rows-then-size_at-size c).At-loop-end).size ∙ sym c.requires.onward.filling.size

pub shape_of-counts-then-size_at-size : goal.shape_of-counts-then-size_at-size
shape_of-counts-then-size_at-size c = (known (goal.at.shape_of-counts-then-size_at-size c).At-loop-end).counted.long ∙ sym c.requires.onward.filling.counted.long

pub returns-then-size_at-size : goal.returns-then-size_at-size
returns-then-size_at-size c =
    record { further = moved_on c.loop-end.invariant (λ e. c.if-size_at-size.true (here (goal.at.returns-then-size_at-size c).After-size_at ∙ e)); filling = c.loop-end.invariant.kept }

pub put_row-requires : goal.put_row-requires
put_row-requires c =
    filling_here (known (goal.at.put_row-requires c).At-loop-end) (inside (goal.at.put_row-requires c).In-loop-end) (sized (goal.at.put_row-requires c).Else-size_at-size)

pub overflow_add-count : goal.overflow_add-count
overflow_add-count c = let k = known (goal.at.overflow_add-count c).At-loop-end in record { fits = omega (arith, k.low, inside (goal.at.overflow_add-count c).In-loop-end, k.asked.small) }

pub overflow_add-end : goal.overflow_add-end
overflow_add-end c = record { fits = omega (arith, (record-here (goal.at.overflow_add-end c).In-loop-end).most, sized (goal.at.overflow_add-end c).Else-size_at-size, (known (goal.at.overflow_add-end c).At-loop-end).asked.small) }

pub loop-end-smaller : goal.loop-end-smaller
loop-end-smaller c = less c.loop-end-test.true (omega (arith, (record-here (goal.at.loop-end-smaller c).In-loop-end).least, sized (goal.at.loop-end-smaller c).Else-size_at-size))

pub loop-end-preserved : goal.loop-end-preserved
loop-end-preserved c =
    let v = c.loop-end.invariant in
    record {
      kept = λ rows₀ l f. filling_next (v.kept rows₀ l f) (inside (goal.at.loop-end-preserved c).In-loop-end) (sized (goal.at.loop-end-preserved c).Else-size_at-size) c.put_row.ensures;
      from = omega (arith, v.from);
      begun = λ e. absurd (omega (arith, v.from, (record-here (goal.at.loop-end-preserved c).In-loop-end).least, sized (goal.at.loop-end-preserved c).Else-size_at-size));
    }

pub shape_of-rows : goal.shape_of-rows
shape_of-rows c = (known (goal.at.shape_of-rows c).At-loop-end).size ∙ sym c.requires.onward.filling.size

pub shape_of-counts : goal.shape_of-counts
shape_of-counts c = (known (goal.at.shape_of-counts c).At-loop-end).counted.long ∙ sym c.requires.onward.filling.counted.long

pub returns : goal.returns
returns c = record { further = omega (arith, c.requires.some, c.loop-end-test.false); filling = c.loop-end.invariant.kept }
