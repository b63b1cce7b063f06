-- `meter::time::is_milli` meets its contract. Assumes nothing.
use lib.Dec.{leb}
use mathlib.Core.Path.{ap}
use Rattle.meter.proofs.time.is_milli.Goals as goal

pub returns : goal.returns
returns c = ap (leb c.args.milli) c.last_milli.ensures
