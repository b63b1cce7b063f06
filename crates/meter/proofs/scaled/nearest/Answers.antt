-- `meter::scaled::nearest` meets its contract: by the sign of the scale. Assumes nothing.
use Rattle.meter.proofs.RoundingLaws.{nearest_below, nearest_above}
use Rattle.meter.proofs.ScaledLaws.{scale_small}
use Rattle.meter.proofs.Signs.{tested}
use Rattle.meter.specs.Scaled.{divided, multiplied}
use Rattle.meter.specs.Rounding.{nearest_to}
use mir.ValLaws.{to_z-of_z}
use mir.Syntax.{w8, w64}
use mathlib.Core.Bool.{true, false}
use lib.IntN.{ℤ, nat_abs}
use Prim.Native.Nat.{ℕ}
use native.Mathlib.Omega.{arith}
use mathlib.Core.Path.{◌≡◌, ap, ◌∙◌}
use Rattle.meter.proofs.scaled.nearest.Goals as goal

pub nearest_product-requires : goal.nearest_product-requires
nearest_product-requires c =
    (c.requires.1, omega (arith, c.exponent_of.ensures ∙ ap nat_abs (to_z-of_z w8 c.args.scale c.ranges.scale), scale_small c.args.scale c.requires.0))

pub returns-then-scale-lt0 : goal.returns-then-scale-lt0
returns-then-scale-lt0 c =
    let a = c.args in
    let x : c.exponent_of.result ≡ nat_abs a.scale = c.exponent_of.ensures ∙ ap nat_abs (to_z-of_z w8 a.scale c.ranges.scale) in
    c.nearest_product.ensures
    ∙ ap (λ (y : ℤ). nearest_to (multiplied y c.exponent_of.result) a.d) (to_z-of_z w64 a.integer c.ranges.integer)
    ∙ ap (λ (k : ℕ). nearest_to (multiplied a.integer k) a.d) x
    ∙ nearest_below a.integer a.scale a.d (tested a.scale c.ranges.scale true c.if-scale-lt0.true)

pub nearest_quotient-requires : goal.nearest_quotient-requires
nearest_quotient-requires c =
    (c.requires.1, omega (arith, c.exponent_of-2.ensures ∙ ap nat_abs (to_z-of_z w8 c.args.scale c.ranges.scale), scale_small c.args.scale c.requires.0))

pub returns : goal.returns
returns c =
    let a = c.args in
    let x : c.exponent_of-2.result ≡ nat_abs a.scale = c.exponent_of-2.ensures ∙ ap nat_abs (to_z-of_z w8 a.scale c.ranges.scale) in
    c.nearest_quotient.ensures
    ∙ ap (λ (y : ℤ). nearest_to (divided y c.exponent_of-2.result) a.d) (to_z-of_z w64 a.integer c.ranges.integer)
    ∙ ap (λ (k : ℕ). nearest_to (divided a.integer k) a.d) x
    ∙ nearest_above a.integer a.scale a.d (tested a.scale c.ranges.scale false c.if-scale-lt0.false)
