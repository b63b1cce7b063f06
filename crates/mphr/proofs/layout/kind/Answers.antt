-- `mphr::layout::kind` meets its contract: the table that is lent has the kinds of the layout, by one computed test. Assumes nothing.
use Rattle.std.proofs.Common.{refl}
use Rattle.mphr.specs.Layout.{fields, kinds}
use Rattle.mphr.proofs.layout.kind.Goals as goal

pub kind_at-requires : goal.kind_at-requires
unfolding fields kinds
kind_at-requires c = (c.requires, refl)
