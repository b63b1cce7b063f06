-- `rewrite::kinds::kinds_in` meets its contract: n is how many of the places below j are not empty. Assumes nothing.
use native.Mathlib.Omega.{arith}
use mathlib.Core.Path.{sym}
use Rattle.rewrite.proofs.TableLaws.{filled_none, filled_skip, filled_more}
use Rattle.rewrite.proofs.kinds.kinds_in.Goals as goal
use Rattle.rewrite.proofs.kinds.kinds_in.Goals.{then-place-ne0, else-place-ne0}

pub loop-place-init : goal.loop-place-init
loop-place-init c = (sym (filled_none c.args.table.now), omega arith)

pub loop-place-preserved : goal.loop-place-preserved
loop-place-preserved c =
    let t = c.args.table.now in
    let j = c.loop-place.place-index in
    let i = c.loop-place.invariant in
    elim c.if-place-ne0.branch [
      | then-place-ne0 w ↦ (omega (arith, filled_more t j w.if-place-ne0.true, i.0, w.n-is), omega (arith, i.1, w.n-is))
      | else-place-ne0 w ↦ (omega (arith, filled_skip t j w.if-place-ne0.false, i.0, w.n-is), omega (arith, i.1, w.n-is))
    ]
