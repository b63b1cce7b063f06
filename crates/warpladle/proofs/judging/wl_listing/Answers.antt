-- `warpladle::judging::wl_listing` meets its contract: the numbers told are those said of the answer. Assumes nothing.
use Rattle.told.proofs.Laws.{told_as}
use Rattle.warpladle.specs.Judging.{listed_said}
use Rattle.warpladle.proofs.judging.wl_listing.Goals as goal

pub returns : goal.returns
returns c = record { lower = c.list_product.result; right = c.list_product.ensures; says = told_as listed_said c.list_product.result c.told.ensures }
