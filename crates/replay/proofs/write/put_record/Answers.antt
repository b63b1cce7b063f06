-- `replay::write::put_record` meets its contract: count, lengths, count, answers, each kept by what is put after it (PutLaws). Assumes nothing.
use Rattle.replay.proofs.PutLaws.{puts_record}
use Rattle.replay.proofs.write.put_record.Goals as goal

pub returns : goal.returns
returns c =
    puts_record c.requires c.put_number.ensures
    c.put_lengths.ensures
    c.put_number-2.ensures c.put_answers.ensures
