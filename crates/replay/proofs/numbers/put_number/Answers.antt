-- `replay::numbers::put_number` meets its contract: `meter` writes into the part of the room from there on. Assumes nothing.
use Prim.Native.Nat.{◌*◌}
use Rattle.meter.specs.Integer.{fits_unsigned}
use Rattle.record.proofs.FieldLaws.{put_part, word_fits}
use Rattle.replay.proofs.numbers.put_number.Goals as goal

pub returns : goal.returns
returns c =
    let a = c.args in
    put_part a.room.now c.write_unsigned.new.room (4 * a.j) 4 a.n (fits_unsigned 4 a.n) (word_fits a.n c.requires.1) c.requires.0 c.write_unsigned.ensures.1
