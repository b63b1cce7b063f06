-- `warpladle::lines::wl_read_header` meets its contract: the numbers told are those said of the answer. Assumes nothing.
use Rattle.told.proofs.Laws.{told_as}
use Rattle.warpladle.specs.Lines.{header_said}
use Rattle.warpladle.proofs.lines.wl_read_header.Goals as goal

pub returns : goal.returns
returns c = record { lower = c.read_header.result; right = c.read_header.ensures; says = told_as (header_said c.args.at) c.read_header.result c.told.ensures }
