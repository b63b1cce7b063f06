-- `record::header::put_header` meets its contract: the steps one after another. Assumes nothing.
use Rattle.record.proofs.HeaderLaws.{header_parts, put_steps}
use lib.ListN.{length, length-set}
use native.Mathlib.Omega.{arith}
use mathlib.Core.Path.{◌≡◌, ◌∙◌}
use Rattle.record.proofs.header.put_header.Goals as goal
use Rattle.record.proofs.header.put_header.Goals.{After-put_word}

-- the room keeps its length
long : (c : After-put_word) → length c.put_word.new.room ≡ length c.args.room.now
long c = c.put_word.auto.room ∙ simp length-set

pub bounds-room-1 : goal.bounds-room-1
bounds-room-1 c = simp length-set (omega arith)

pub bounds-room-2 : goal.bounds-room-2
bounds-room-2 c = simp length-set (omega arith)

pub bounds-room-3 : goal.bounds-room-3
bounds-room-3 c = simp length-set (omega arith)

pub put_word-requires : goal.put_word-requires
put_word-requires c = simp length-set (omega arith)

pub put_time-requires : goal.put_time-requires
put_time-requires c = (omega (arith, long (goal.at.put_time-requires c).After-put_word), (header_parts c.args.header c.requires.1).1)

pub put_time-requires-2 : goal.put_time-requires-2
put_time-requires-2 c = (omega (arith, c.put_time.auto.room, long (goal.at.put_time-requires-2 c).After-put_word), (header_parts c.args.header c.requires.1).2)

pub shape_of-room : goal.shape_of-room
shape_of-room c = c.put_time-2.auto.room ∙ c.put_time.auto.room ∙ long (goal.at.shape_of-room c).After-put_word

pub returns : goal.returns
returns c =
    let g = c.well_formed.1.0 in
    put_steps c.args.room.now _ _ _ c.args.header (omega (arith, g)) (omega (arith, g)) (omega (arith, g)) (omega (arith, g)) c.put_word.ensures c.put_time.ensures c.put_time-2.ensures
