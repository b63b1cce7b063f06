-- `rewrite::kinds::put_pointers` meets its contract: the pointers of the places that are left, put into the room as it is, give all of them. Assumes
-- nothing.
use native.Mathlib.Omega.{arith}
use Rattle.rewrite.proofs.EmitLaws.{emit_first, emit_place, emit_next, emit_last}
use Rattle.rewrite.proofs.kinds.put_pointers.Goals as goal

pub loop-j-init : goal.loop-j-init
loop-j-init c = emit_first c.requires

pub put_place-to-requires : goal.put_place-to-requires
put_place-to-requires c = emit_place c.loop-j.invariant (omega arith)

pub loop-j-preserved : goal.loop-j-preserved
loop-j-preserved c = emit_next c.loop-j.invariant (omega arith) c.put_place-to.ensures

pub shape_of-room : goal.shape_of-room
shape_of-room c = c.loop-j.invariant.long

pub returns : goal.returns
returns c = emit_last c.loop-j.invariant (omega arith)
