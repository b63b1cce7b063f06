-- `watch::under_way::head_lines` meets its contract: the first n bytes are what mphr judges. Assumes nothing.
use mathlib.Core.Path.{sym}
use lib.Seq.{length-take-le}
use Rattle.watch.proofs.under_way.head_lines.Goals as goal

pub slice_bounds-lines_from-end : goal.slice_bounds-lines_from-end
slice_bounds-lines_from-end c = sym (length-take-le c.args.n c.args.head.now c.requires)
