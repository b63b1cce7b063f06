-- `query::start_of` meets its contract: after each turn n records are passed, and the next is on the way to the last whole one. Assumes nothing.
use native.Mathlib.Omega.{arith}
use mathlib.Core.Path.{◌≡◌, ◌∙◌}
use Rattle.record.proofs.HeaderLaws.{size_there_lem}
use Rattle.judge.specs.Table.{size_at}
use Rattle.query.proofs.QueryLaws.{walking_first, Steady, steady, walking_next}
use Rattle.query.proofs.start_of.Goals as goal
use Rattle.query.proofs.start_of.Goals.{In-loop-n, After-size_at-at}

in-turn : (c : In-loop-n) → Steady c.args.s.now c.loop-n.at
in-turn c = steady c.loop-n.invariant c.loop-n-test.true

pub loop-n-init : goal.loop-n-init
loop-n-init c = walking_first c.requires c.if-k-eq0.false

size : (c : After-size_at-at) → c.size_at-at.result ≡ size_at c.args.s.now c.loop-n.at
size c = let w = in-turn (goal.at.After-size_at-at c).In-loop-n in c.size_at-at.ensures ∙ size_there_lem c.args.s.now c.loop-n.at (omega (arith, w.least, w.come))

pub overflow_add-at : goal.overflow_add-at
overflow_add-at c = let w = in-turn (goal.at.overflow_add-at c).In-loop-n in omega (arith, w.come, size c)

pub loop-n-preserved : goal.loop-n-preserved
loop-n-preserved c = walking_next c.loop-n.invariant c.loop-n-test.true (size c)
