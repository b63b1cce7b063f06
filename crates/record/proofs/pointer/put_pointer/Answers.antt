-- `record::pointer::put_pointer` meets its contract: the header, then the target. Assumes nothing.
use Rattle.record.proofs.PointerLaws.{put_steps}
use lib.ListN.{length-set}
use native.Mathlib.Omega.{arith}
use mathlib.Core.Path.{◌∙◌}
use Rattle.record.proofs.pointer.put_pointer.Goals as goal

pub bounds-room-21 : goal.bounds-room-21
bounds-room-21 c = simp length-set (omega (arith, c.put_header.auto.room))

pub bounds-room-22 : goal.bounds-room-22
bounds-room-22 c = simp length-set (omega (arith, c.put_header.auto.room))

pub put_word-requires : goal.put_word-requires
put_word-requires c = simp length-set (omega (arith, c.put_header.auto.room))

pub shape_of-room : goal.shape_of-room
shape_of-room c = c.put_word.auto.room ∙ simp length-set c.put_header.auto.room

pub returns : goal.returns
returns c =
    let g = c.well_formed.1.0 in
    put_steps c.args.room.now _ _ c.args.pointer (omega (arith, g)) (omega (arith, g)) (omega (arith, g)) c.put_header.ensures c.put_word.ensures
