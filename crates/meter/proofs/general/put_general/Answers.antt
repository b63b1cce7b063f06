-- `meter::general::put_general` meets its contract: the time taken apart. Assumes nothing.
use Rattle.meter.proofs.GeneralCode.{put_undefined, put_at}
use mathlib.Core.Path.{◌∙◌}
use Rattle.meter.proofs.general.put_general.Goals as goal

pub returns-in-None : goal.returns-in-None
returns-in-None c = let a = c.args in c.put_none.ensures ∙ put_undefined a.n a.room.now a.time c.in-None.is

pub returns-in-Some : goal.returns-in-Some
returns-in-Some c = let a = c.args in c.put_moment.ensures ∙ put_at a.n a.room.now a.time c.in-Some.t c.in-Some.is
