-- `meter::scaled::show_number` meets its contract: by the sign of the scale. Assumes nothing.
use Rattle.meter.proofs.ReadingLaws.{shown_below, shown_above}
use Rattle.meter.proofs.ScaledLaws.{scale_small}
use Rattle.meter.proofs.Signs.{tested}
use Rattle.meter.specs.Scaled.{divided, multiplied}
use Rattle.meter.specs.Reading.{quotient, converted, shown_as}
use mir.ValLaws.{to_z-of_z}
use mir.Syntax.{w8, w64}
use mathlib.Core.Bool.{true, false}
use lib.IntN.{ℤ, nat_abs}
use Prim.Native.Nat.{ℕ}
use native.Mathlib.Omega.{arith}
use mathlib.Core.Path.{◌≡◌, ap, ◌∙◌}
use Rattle.meter.proofs.scaled.show_number.Goals as goal

pub show_product-requires : goal.show_product-requires
show_product-requires c =
    omega (arith, c.exponent_of.ensures ∙ ap nat_abs (to_z-of_z w8 c.args.scale c.ranges.scale), scale_small c.args.scale c.requires)

pub returns-then-scale-lt0 : goal.returns-then-scale-lt0
returns-then-scale-lt0 c =
    let a = c.args in
    let x : c.exponent_of.result ≡ nat_abs a.scale = c.exponent_of.ensures ∙ ap nat_abs (to_z-of_z w8 a.scale c.ranges.scale) in
    c.show_product.ensures
    ∙ ap (λ (y : ℤ). shown_as (multiplied y c.exponent_of.result) (converted y c.exponent_of.result)) (to_z-of_z w64 a.integer c.ranges.integer)
    ∙ ap (λ (k : ℕ). shown_as (multiplied a.integer k) (converted a.integer k)) x
    ∙ shown_below a.integer a.scale (tested a.scale c.ranges.scale true c.if-scale-lt0.true)

pub show_quotient-requires : goal.show_quotient-requires
show_quotient-requires c =
    omega (arith, c.exponent_of-2.ensures ∙ ap nat_abs (to_z-of_z w8 c.args.scale c.ranges.scale), scale_small c.args.scale c.requires)

pub returns : goal.returns
returns c =
    let a = c.args in
    let x : c.exponent_of-2.result ≡ nat_abs a.scale = c.exponent_of-2.ensures ∙ ap nat_abs (to_z-of_z w8 a.scale c.ranges.scale) in
    c.show_quotient.ensures
    ∙ ap (λ (y : ℤ). shown_as (divided y c.exponent_of-2.result) (quotient y c.exponent_of-2.result)) (to_z-of_z w64 a.integer c.ranges.integer)
    ∙ ap (λ (k : ℕ). shown_as (divided a.integer k) (quotient a.integer k)) x
    ∙ shown_above a.integer a.scale (tested a.scale c.ranges.scale false c.if-scale-lt0.false)
