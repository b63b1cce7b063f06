-- `rewrite::kinds::note` meets its contract: an empty place is set, another is kept. Assumes nothing.
use Prim.Native.Nat.{suc, ◌+◌}
use native.Mathlib.Omega.{arith}
use mathlib.Core.Path.{◌≡◌, ap, refl}
use borrow.Author.Tests.{eq-eqb, ne_eqb}
use lib.ListN.{get_or, set}
use Rattle.rewrite.proofs.kinds.note.Goals as goal

pub returns-then-table-j-eq0 : goal.returns-then-table-j-eq0
returns-then-table-j-eq0 c =
    let a = c.args in
    let e : a.n + 1 ≡ suc a.n = omega arith in
    rw (eq-eqb (get_or a.table.now a.j 0) 0 c.if-table-j-eq0.true) (ap (set a.table.now a.j) e)

pub returns-else-table-j-eq0 : goal.returns-else-table-j-eq0
returns-else-table-j-eq0 c = let a = c.args in rw (ne_eqb (get_or a.table.now a.j 0) 0 c.if-table-j-eq0.false) refl
