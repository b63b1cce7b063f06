-- `replay::run::sum_of` meets its contract. The invariant: what was added is the sum of the lengths before k, so that it never wraps (SumLaws).
-- Assumes nothing.
use native.Mathlib.Omega.{arith}
use Rattle.replay.proofs.SumLaws.{summed_none, summed_more, summed_fits, summed_all}
use Rattle.replay.proofs.run.sum_of.Goals as goal

pub loop-k-init : goal.loop-k-init
loop-k-init c = summed_none _

pub overflow_add-k : goal.overflow_add-k
overflow_add-k c = let p = c.requires in omega (arith, p.counted, c.loop-k-test.true)

pub number_at-sum-requires : goal.number_at-sum-requires
number_at-sum-requires c = let p = c.requires in omega (arith, p.come, c.loop-k-test.true)

pub overflow_add-sum : goal.overflow_add-sum
overflow_add-sum c =
    let f = summed_fits c.loop-k.invariant (omega (arith, c.requires.counted, c.loop-k-test.true)) c.number_at-sum.ensures.1 in
    omega arith

pub loop-k-preserved : goal.loop-k-preserved
loop-k-preserved c =
    summed_more c.loop-k.invariant c.number_at-sum.ensures.0 c.number_at-sum.ensures.1

pub returns : goal.returns
returns c =
    summed_all c.loop-k.invariant (omega arith)
