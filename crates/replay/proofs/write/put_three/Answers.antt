-- `replay::write::put_three` meets its contract: number by number (PutLaws). Assumes nothing.
use Rattle.replay.proofs.PutLaws.{put_three, puts_as}
use Rattle.replay.proofs.write.put_three.Goals as goal

pub returns : goal.returns
returns c =
    let a = c.args in
    let p = c.requires in
    let one = c.put_number.ensures in
    let two = c.put_number-2.ensures in
    let all = c.put_number-3.ensures in
    puts_as one two all (put_three a.room.now a.j a.number a.place a.count p.0 p.1 p.2 p.3)
