-- `rewrite::kinds::slot` meets its contract: the place of a class, the column of a group and a subclass. Assumes nothing.
use native.Mathlib.Omega.{arith}
use Rattle.rewrite.proofs.TableLaws.{slot_is}
use Rattle.rewrite.proofs.kinds.slot.Goals as goal

pub overflow_add-result : goal.overflow_add-result
overflow_add-result c = omega (arith, c.column.ensures.0)

pub overflow_mul-result-2 : goal.overflow_mul-result-2
overflow_mul-result-2 c = omega (arith, c.column.ensures.0)

pub overflow_add-result-2 : goal.overflow_add-result-2
overflow_add-result-2 c = omega (arith, c.column.ensures.0)

pub returns : goal.returns
returns c =
    let a = c.args in
    slot_is a.class c.column.result a.subclass a.group _ c.requires.0 c.requires.1 c.column.ensures.0 (omega arith) c.column.ensures.1
    (omega (arith, c.wide.ensures, c.wide-2.ensures))
