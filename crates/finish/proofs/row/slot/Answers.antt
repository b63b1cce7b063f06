-- `finish::row::slot` meets its contract: the column of a group is below 16. Assumes nothing.
use Prim.Native.Nat.{◌<◌}
use native.Mathlib.Omega.{arith}
use Rattle.finish.proofs.SlotLaws.{column_below, slot_is}
use Rattle.finish.proofs.row.slot.Goals as goal
use Rattle.finish.proofs.row.slot.Goals.{After-column}

-- the column is below 16
below : (c : After-column) → c.column.result < 16
below c = omega (arith, c.column.ensures, column_below c.args.group c.requires.2)

pub overflow_add-result : goal.overflow_add-result
overflow_add-result c = omega (arith, below c)

pub overflow_mul-result-2 : goal.overflow_mul-result-2
overflow_mul-result-2 c = omega (arith, below c)

pub overflow_add-result-2 : goal.overflow_add-result-2
overflow_add-result-2 c = omega (arith, below (goal.at.overflow_add-result-2 c).After-column)

pub returns : goal.returns
returns c =
    let a = c.args in
    slot_is a.class a.group a.subclass _ c.requires.0 c.requires.1 c.requires.2 (omega arith)
    (omega (arith, c.column.ensures))
