-- `mphr::layout::width` meets its contract: the const array is the widths of the layout, by one computed test. Assumes nothing.
use mathlib.Core.Path.{refl}
use Rattle.mphr.specs.Layout.{fields, widths}
use borrow.Author.Rules.{rules}
use Rattle.mphr.proofs.layout.width.Goals as goal

pub width_at-requires : goal.width_at-requires
unfolding fields widths
width_at-requires c = (search rules, refl)
