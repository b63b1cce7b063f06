-- `watch::idle` meets its contract: what advancing says, of copies. Assumes nothing.
use Rattle.watch.proofs.idle.Goals as goal

pub returns : goal.returns
returns c = λ a s z. (c.advance-r.ensures a s z).says
