-- `rewrite::lines::set_sums` meets its contract: after the last sums those before them, one line after the other. Assumes nothing.
use Prim.Native.Nat.{suc, ◌-◌}
use native.Mathlib.Omega.{arith}
use mathlib.Core.Path.{◌≡◌, sym, ◌∙◌}
use Rattle.rewrite.proofs.SumLaws.{summing_first, summing_next, summing_last, sum_for}
use borrow.Author.Rules.{rules}
use Rattle.rewrite.proofs.lines.set_sums.Goals as goal

pub loop-k-init : goal.loop-k-init
loop-k-init c = let p = c.requires in summing_first p.0 p.1 p.2

pub sum_on-requires : goal.sum_on-requires
sum_on-requires c = let i = c.loop-k.invariant in (i.headers, omega (arith, c.loop-k-test.true), omega (arith, i.within))

pub set_number-requires : goal.set_number-requires
set_number-requires c =
    let i = c.loop-k.invariant in
    (i.long, rw c.sum_on.ensures (sum_for _ _ (c.loop-k.k - 1) (omega (arith, c.loop-k-test.true)) (omega (arith, i.within)) i.sums))

pub loop-k-preserved : goal.loop-k-preserved
loop-k-preserved c =
    let e : suc (c.loop-k.k - 1) ≡ c.loop-k.k = omega (arith, c.loop-k-test.true) in
    summing_next c.loop-k.invariant e (omega (arith, c.loop-k-test.true)) (search rules) (rw c.sum_on.ensures at c.set_number.ensures)

pub shape_of-header : goal.shape_of-header
shape_of-header c = c.loop-k.invariant.long ∙ sym c.loop-k.invariant.same

pub returns : goal.returns
returns c = let i = c.loop-k.invariant in summing_last i (omega (arith, i.least, c.loop-k-test.false))
