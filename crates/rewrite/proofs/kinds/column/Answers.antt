-- `rewrite::kinds::column` meets its contract: by the group. Assumes nothing.
use native.Mathlib.Omega.{arith}
use mathlib.Core.Path.{sym, ◌∙◌}
use Rattle.parts.proofs.KindLaws.{low_group}
use Rattle.rewrite.proofs.TableLaws.{high_group, at_fifteen, at_last}
use Rattle.rewrite.proofs.kinds.column.Goals as goal

pub returns-then-group-le13 : goal.returns-then-group-le13
returns-then-group-le13 c =
    let h = c.if-group-le13.true in
    let e = c.wide.ensures in
    (omega (arith, e, h), rw e (low_group c.args.group (omega (arith, h))))

pub returns-then-group-eq15 : goal.returns-then-group-eq15
returns-then-group-eq15 c = (omega arith, at_fifteen ∙ sym c.if-group-eq15.true)

pub returns-else-group-eq15 : goal.returns-else-group-eq15
returns-else-group-eq15 c = (omega arith, at_last ∙ sym (high_group c.args.group c.requires c.if-group-le13.false c.if-group-eq15.false))
