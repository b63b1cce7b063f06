-- `judge::stretch::no_notes` meets its contract. Assumes nothing.
use Rattle.std.proofs.Common.{refl}
use Rattle.judge.proofs.stretch.no_notes.Goals as goal

pub returns : goal.returns
returns c = rw c.no_stretch-none.ensures refl
