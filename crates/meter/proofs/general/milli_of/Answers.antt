-- `meter::general::milli_of` meets its contract: the sum as it stands. Assumes nothing.
use Rattle.meter.specs.General.{milli_of}
use mathlib.Core.Path.{refl}
use Rattle.meter.proofs.general.milli_of.Goals as goal

pub returns : goal.returns
unfolding milli_of
returns c = refl
