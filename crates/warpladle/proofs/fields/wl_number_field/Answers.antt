-- `warpladle::fields::wl_number_field` meets its contract: the numbers told are those said of the answer. Assumes nothing.
use Rattle.told.proofs.Laws.{told_as}
use Rattle.warpladle.specs.Fields.{number_said}
use Rattle.warpladle.proofs.fields.wl_number_field.Goals as goal

pub returns : goal.returns
returns c = record { lower = c.number_field.result; right = c.number_field.ensures; says = told_as number_said c.number_field.result c.told.ensures }
