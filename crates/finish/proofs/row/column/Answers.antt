-- `finish::row::column` meets its contract: 99 has the column of 14, each other group its own. Assumes nothing.
use mathlib.Core.Path.{sym}
use Rattle.finish.proofs.SlotLaws.{last_column, own_column}
use Rattle.finish.proofs.row.column.Goals as goal

pub returns-then-group-eq99 : goal.returns-then-group-eq99
returns-then-group-eq99 c = sym (last_column c.args.group c.if-group-eq99.true)

pub returns-else-group-eq99 : goal.returns-else-group-eq99
returns-else-group-eq99 c = sym (own_column c.args.group c.if-group-eq99.false)
