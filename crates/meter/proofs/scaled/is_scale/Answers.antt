-- `meter::scaled::is_scale` meets its contract: the size of the scale. Assumes nothing.
use Rattle.meter.specs.Scaled.{is_scale}
use mir.ValLaws.{to_z-of_z}
use mir.Syntax.{w8}
use lib.Dec.{leb}
use lib.IntN.{nat_abs}
use Prim.Native.Nat.{ℕ}
use mathlib.Core.Path.{ap, ◌∙◌}
use Rattle.meter.proofs.scaled.is_scale.Goals as goal

pub returns : goal.returns
unfolding is_scale
returns c = ap (λ (k : ℕ). leb k 15) (c.exponent_of.ensures ∙ ap nat_abs (to_z-of_z w8 c.args.scale c.ranges.scale))
