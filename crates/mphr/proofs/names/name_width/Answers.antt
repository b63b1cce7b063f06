-- `mphr::names::name_width` meets its contract: the row has the length. Assumes nothing.
use mathlib.Core.Path.{ap, ◌∙◌}
use mathlib.Core.List.{List}
use Prim.Native.Nat.{ℕ, ◌%◌}
use lib.ListN.{get_or}
use Rattle.mphr.proofs.QuickLaws.{width_at}
use Rattle.mphr.proofs.names.name_width.Goals as goal

pub returns : goal.returns
returns c = ap (λ (l : List ℕ). get_or l 3 0 % 256) c.words-row.ensures ∙ width_at c.args.k c.requires
