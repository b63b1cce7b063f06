-- `warpladle::fields::wl_ground_point` meets its contract: the numbers told are those said of the answer. Assumes nothing.
use Rattle.std.proofs.Common.{rules}
use Rattle.told.proofs.Laws.{told_as}
use Rattle.warpladle.specs.Fields.{point_said}
use Rattle.warpladle.proofs.fields.wl_ground_point.Goals as goal

pub returns : goal.returns
returns c = record { lower = c.ground_point-found.result; right = (search rules, search rules); says = told_as point_said c.ground_point-found.result c.told.ensures }
