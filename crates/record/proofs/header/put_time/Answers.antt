-- `record::header::put_time` meets its contract: `meter` writes into the part of the room from there on. Assumes nothing.
use Rattle.record.proofs.FieldLaws.{put_part}
use Rattle.meter.specs.Time.{is_time, bits_of}
use Rattle.record.proofs.header.put_time.Goals as goal

pub returns : goal.returns
returns c =
    let a = c.args in
    put_part a.room.now c.write_time.new.room a.at 6 (bits_of a.time) (is_time a.time) c.requires.1 c.requires.0 c.write_time.ensures.writes_time.1
