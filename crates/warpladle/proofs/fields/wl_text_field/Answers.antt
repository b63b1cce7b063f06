-- `warpladle::fields::wl_text_field` meets its contract: the numbers told are those said of the answer. Assumes nothing.
use Rattle.told.proofs.Laws.{told_as}
use Rattle.warpladle.specs.Fields.{text_said}
use Rattle.warpladle.proofs.fields.wl_text_field.Goals as goal

pub returns : goal.returns
returns c = record { lower = c.text_field.result; right = c.text_field.ensures; says = told_as text_said c.text_field.result c.told.ensures }
