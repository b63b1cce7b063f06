-- `rewrite::lines::set_totals` meets its contract: after the last totals those before them, one line after the other. Assumes nothing.
use Prim.Native.Nat.{suc, ◌-◌, ◌<◌}
use native.Mathlib.Omega.{arith}
use mathlib.Core.Path.{◌≡◌}
use borrow.Author.Rules.{rules}
use Rattle.rewrite.proofs.LineLaws.{adding_first, adding_next, adding_last, total_for}
use Rattle.rewrite.proofs.lines.set_totals.Goals as goal

pub loop-j-init : goal.loop-j-init
loop-j-init c = adding_first c.requires.0 c.requires.1

pub set_number-requires : goal.set_number-requires
set_number-requires c =
    let l = c.loop-j in
    let j : l.j - 1 < 9 = omega (arith, l.invariant.within, c.loop-j-test.true) in
    let small = l.invariant.totals.most (l.j - 1) j in
    (l.invariant.long, rw c.whole.ensures (total_for (l.j - 1) _ j small))

pub loop-j-preserved : goal.loop-j-preserved
loop-j-preserved c =
    let l = c.loop-j in
    let e : suc (l.j - 1) ≡ l.j = omega (arith, c.loop-j-test.true) in
    adding_next l.invariant e (search rules) (rw c.whole.ensures at c.set_number.ensures)

pub returns : goal.returns
returns c = adding_last c.loop-j.invariant (omega arith)
