-- `uth::blocks::block_of` meets its contract: its parts are what they are. Assumes nothing.
use Rattle.uth.proofs.blocks.block_of.Goals as goal

pub returns : goal.returns
returns c = cc (c.value_at.ensures, c.value_at-2.ensures)
