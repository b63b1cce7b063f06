-- `finish::fill::fill_even` meets its contract: after each row the list is as far as `Filling` says, and the sizes that are left are known.
-- Assumes nothing.
use Prim.Native.Nat.{◌<◌}
use native.Mathlib.Omega.{arith}
use mathlib.Core.Path.{◌≡◌, sym, ◌∙◌}
use lib.ListN.{length}
use Rattle.judge.specs.Table.{size_at}
use Rattle.finish.specs.Ahead.{Record}
use Rattle.finish.specs.Fill.{Filling}
use Rattle.finish.proofs.Filling.{record_at, filling_here, filling_next, even_step, less}
use Rattle.finish.proofs.fill.fill_even.Goals as goal
use Rattle.finish.proofs.fill.fill_even.Goals.{At-loop-i, In-loop-i}

known : (c : At-loop-i) → Filling c.args.s.now c.requires.onward.rows₀ c.requires.onward.list c.loop-i.rows c.loop-i.counts c.loop-i.count c.loop-i.i
known c = c.loop-i.invariant.kept c.requires.onward.rows₀ c.requires.onward.list c.requires.onward.filling

inside : (c : In-loop-i) → c.loop-i.i < length c.args.s.now
inside c = omega (arith, c.loop-i-test.true, c.requires.most)

here : (c : In-loop-i) → Record c.args.s.now c.loop-i.i
here c = record_at (known (goal.at.In-loop-i c).At-loop-i) (inside c)

-- the size of the record at hand
sized : (c : In-loop-i) → c.args.size ≡ size_at c.args.s.now c.loop-i.i
sized c = let v = c.loop-i.invariant in (even_step v.even (omega (arith, c.loop-i-test.true, v.within))).0

pub loop-i-init : goal.loop-i-init
loop-i-init c = let p = c.requires in record { kept = λ rows₀ l f. f; stop = p.stop; even = p.even; within = p.within }

pub put_row-requires : goal.put_row-requires
put_row-requires c = filling_here (known (goal.at.put_row-requires c).At-loop-i) (inside (goal.at.put_row-requires c).In-loop-i) (sized (goal.at.put_row-requires c).In-loop-i)

pub overflow_add-count : goal.overflow_add-count
overflow_add-count c = let k = known (goal.at.overflow_add-count c).At-loop-i in record { fits = omega (arith, k.low, inside (goal.at.overflow_add-count c).In-loop-i, k.asked.small) }

pub overflow_add-i : goal.overflow_add-i
overflow_add-i c = record { fits = omega (arith, (here (goal.at.overflow_add-i c).In-loop-i).most, sized (goal.at.overflow_add-i c).In-loop-i, (known (goal.at.overflow_add-i c).At-loop-i).asked.small) }

pub loop-i-smaller : goal.loop-i-smaller
loop-i-smaller c = less c.loop-i-test.true (omega (arith, (here (goal.at.loop-i-smaller c).In-loop-i).least, sized (goal.at.loop-i-smaller c).In-loop-i))

pub loop-i-preserved : goal.loop-i-preserved
loop-i-preserved c =
    let v = c.loop-i.invariant in
    record {
      kept = λ rows₀ l f. filling_next (v.kept rows₀ l f) (inside (goal.at.loop-i-preserved c).In-loop-i) (sized (goal.at.loop-i-preserved c).In-loop-i) c.put_row.ensures;
      stop = v.stop;
      even = (even_step v.even (omega (arith, c.loop-i-test.true, v.within))).1;
      within = v.within;
    }

pub shape_of-rows : goal.shape_of-rows
shape_of-rows c = (known (goal.at.shape_of-rows c).At-loop-i).size ∙ sym c.requires.onward.filling.size

pub shape_of-counts : goal.shape_of-counts
shape_of-counts c = (known (goal.at.shape_of-counts c).At-loop-i).counted.long ∙ sym c.requires.onward.filling.counted.long

pub returns : goal.returns
returns c = record { further = omega (arith, c.requires.some, c.loop-i-test.false); filling = c.loop-i.invariant.kept }
