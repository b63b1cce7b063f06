-- `uth::blocks::put_block` meets its contract: a place of each room, by its parts. Assumes nothing.
use Rattle.uth.proofs.blocks.put_block.Goals as goal

pub returns : goal.returns
returns c =
    (simp (c.flag.ensures, c.flag-2.ensures), simp (c.number.ensures, c.number-2.ensures))
