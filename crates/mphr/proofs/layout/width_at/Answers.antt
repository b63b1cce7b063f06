-- `mphr::layout::width_at` meets its contract: the array has the widths. Assumes nothing.
use native.Mathlib.Omega.{arith}
use mathlib.Core.Path.{◌≡◌, ap, ◌∙◌}
use mathlib.Core.List.{List}
use Prim.Native.Nat.{ℕ}
use lib.ListN.{get_or}
use Rattle.mphr.specs.Layout.{width_of}
use Rattle.mphr.proofs.LayoutLaws.{width_most}
use Rattle.mphr.proofs.layout.width_at.Goals as goal
use Rattle.mphr.proofs.layout.width_at.Goals.{After-size_of}

same : (c : After-size_of) → c.size_of.result ≡ width_of c.args.k
unfolding width_of
same c = c.size_of.ensures ∙ ap (λ (t : List ℕ). get_or t c.args.k 0) c.requires.1

pub returns : goal.returns
returns c = (same c, omega (arith, same c, width_most c.args.k c.requires.0))
