-- `rewrite::copy::copy` meets its contract: what is left of the text, put into the room as it is, gives the whole. Assumes nothing.
use native.Mathlib.Omega.{arith}
use Rattle.rewrite.proofs.CopyLaws.{copy_first, copy_next, copy_last}
use Rattle.rewrite.proofs.copy.copy.Goals as goal

pub loop-i-init : goal.loop-i-init
loop-i-init c = copy_first c.requires.0 c.requires.1

pub overflow_add-room : goal.overflow_add-room
overflow_add-room c = omega arith

pub bounds-s-from : goal.bounds-s-from
bounds-s-from c = omega arith

pub overflow_add-room-in-loop-i : goal.overflow_add-room-in-loop-i
overflow_add-room-in-loop-i c = omega arith

pub bounds-room-at : goal.bounds-room-at
bounds-room-at c = omega arith

pub loop-i-preserved : goal.loop-i-preserved
loop-i-preserved c = copy_next c.loop-i.invariant c.loop-i-test.true

pub shape_of-room : goal.shape_of-room
shape_of-room c = c.loop-i.invariant.long

pub returns : goal.returns
returns c = copy_last c.loop-i.invariant c.loop-i-test.false
