-- `told::put::written` meets its contract: the numbers told are those said of the answer. Assumes nothing.
use Rattle.told.specs.Told.{written_said}
use Rattle.told.proofs.Laws.{told_as}
use Rattle.told.proofs.put.written.Goals as goal

pub returns : goal.returns
returns c = told_as written_said c.args.said c.told.ensures
