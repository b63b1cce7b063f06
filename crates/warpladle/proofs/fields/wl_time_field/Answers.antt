-- `warpladle::fields::wl_time_field` meets its contract: the numbers told are those said of the answer. Assumes nothing.
use Rattle.told.proofs.Laws.{told_as}
use Rattle.warpladle.specs.Fields.{time_said}
use Rattle.warpladle.proofs.fields.wl_time_field.Goals as goal

pub returns : goal.returns
returns c = record { lower = c.time_of.result; right = c.time_of.ensures; says = told_as time_said c.time_of.result c.told.ensures }
