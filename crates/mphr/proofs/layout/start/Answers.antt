-- `mphr::layout::start` meets its contract: the const array is the starts of the layout, by one computed test, and those are where lines start (start-at). Assumes nothing.
use Rattle.mphr.specs.Layout.{fields, widths, starts}
use Rattle.mphr.proofs.LayoutLaws.{start_at}
use Rattle.mphr.proofs.layout.start.Goals as goal

pub returns : goal.returns
unfolding fields widths starts
returns c = start_at c.args.k c.requires
