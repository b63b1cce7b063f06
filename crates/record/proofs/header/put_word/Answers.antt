-- `record::header::put_word` meets its contract: `meter` writes into the part of the room from there on. Assumes nothing.
use Rattle.record.proofs.FieldLaws.{put_part, word_fits}
use Rattle.meter.specs.Integer.{fits_unsigned}
use Rattle.record.proofs.header.put_word.Goals as goal

pub returns : goal.returns
returns c =
    let a = c.args in
    put_part a.room.now c.write_unsigned.new.room a.at 4 a.word (fits_unsigned 4 a.word) (word_fits a.word c.ranges.word.fits) c.requires c.write_unsigned.ensures.1
