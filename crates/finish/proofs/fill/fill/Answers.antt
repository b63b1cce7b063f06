-- `finish::fill::fill` meets its contract: the rows that are in, with those of the records that are left, are what the list shall hold, and the
-- counters tell how many of each triple are in. Assumes nothing.
use native.Mathlib.Omega.{arith}
use mathlib.Core.Path.{sym, ◌∙◌}
use Rattle.finish.specs.Fill.{Filling}
use Rattle.finish.proofs.Filling.{filling_first, filling_last}
use Rattle.finish.proofs.fill.fill.Goals as goal
use Rattle.finish.proofs.fill.fill.Goals.{At-loop-at}

-- of the records that are asked for
known : (c : At-loop-at) → Filling c.args.s.now c.args.rows.now c.requires.0.list c.loop-at.rows c.loop-at.counts c.loop-at.k c.loop-at.at
known c = c.loop-at.invariant c.requires.0.list c.requires.0.asked

pub loop-at-init : goal.loop-at-init
loop-at-init c = let p = c.requires.0 in λ l q. filling_first q p.long p.zero

pub fill_some-reached-requires : goal.fill_some-reached-requires
fill_some-reached-requires c = (record { rows₀ = _; list = _; filling = known (goal.at.fill_some-reached-requires c).At-loop-at; inside = c.loop-at-test.true }, c.requires.1)

pub loop-at-smaller : goal.loop-at-smaller
loop-at-smaller c = omega (arith, c.fill_some-reached.ensures.further, c.loop-at-test.true)

pub loop-at-preserved : goal.loop-at-preserved
loop-at-preserved c = λ l q. c.fill_some-reached.ensures.filling _ l (c.loop-at.invariant l q)

pub shape_of-rows : goal.shape_of-rows
shape_of-rows c = (known (goal.at.shape_of-rows c).At-loop-at).size

pub shape_of-counts : goal.shape_of-counts
shape_of-counts c = (known (goal.at.shape_of-counts c).At-loop-at).counted.long ∙ sym c.requires.0.long

pub returns : goal.returns
returns c = record { filled = λ l q. filling_last (c.loop-at.invariant l q) c.loop-at-test.false }
