-- `finish::row::row_at` meets its contract: its numbers are those of the row, one by one. Assumes nothing.
use Rattle.finish.proofs.row.row_at.Goals as goal

pub returns : goal.returns
returns c = cc
