-- `warpladle::fields::wl_field_named` meets its contract: the numbers told are those said of the answer. Assumes nothing.
use Rattle.told.proofs.Laws.{told_as}
use Rattle.warpladle.specs.Fields.{field_said}
use Rattle.warpladle.proofs.fields.wl_field_named.Goals as goal

pub returns : goal.returns
returns c = record { lower = c.field_named.result; right = c.field_named.ensures; says = told_as field_said c.field_named.result c.told.ensures }
