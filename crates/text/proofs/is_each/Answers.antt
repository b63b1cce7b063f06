-- `text::is_each` meets its contract: after j turns the two are the bounds of the first j bytes. Assumes nothing.
use Rattle.text.proofs.EachLaws.{Bounds, each_low, each_high}
use Rattle.meter.proofs.Parts.{part_length}
use native.Mathlib.Omega.{arith}
use mathlib.Core.Path.{◌≡◌}
use Rattle.text.proofs.is_each.Goals as goal
use Rattle.text.proofs.is_each.Goals.{After-loop-b}

-- the bounds of all n
all : (c : After-loop-b) → Bounds c.args.lo c.args.hi c.args.bytes.now c.args.at c.args.n c.loop-b.least c.loop-b.most
all c =
    let a = c.args in
    let e : c.loop-b.b-index ≡ a.n = omega (arith, c.loop-b.auto.b-index-end, c.loop-b-test.false, part_length a.bytes.now a.at a.n c.requires) in
    rw e at c.loop-b.invariant

pub returns-then-least-lo : goal.returns-then-least-lo
returns-then-least-lo c = each_low (all (goal.at.returns-then-least-lo c).After-loop-b) c.if-least-lo.true

pub returns : goal.returns
returns c = each_high (all (goal.at.returns c).After-loop-b) c.if-least-lo.false
