-- `meter::scaled::fits_defined` meets its contract: the scale, then the size against half or top. Assumes nothing.
use Rattle.meter.proofs.ScaledLaws.{fits_signed, fits_negative, fits_unsigned}
use Rattle.meter.proofs.IntegerLaws.{wide_of}
use Rattle.meter.proofs.Signs.{tested}
use Rattle.meter.specs.Scaled.{is_scale, fits_defined}
use mir.ValLaws.{to_z-of_z}
use mir.Syntax.{w8, w64}
use lib.IntN.{nat_abs}
use lib.Dec.{ltb}
use Prim.Native.Nat.{ℕ}
use borrow.Author.Tests.{not-true, not-false}
use mathlib.Core.Bool.{Bool, true, false}
use mathlib.Core.Path.{◌≡◌, sym, ap, ◌∙◌}
use Rattle.meter.proofs.scaled.fits_defined.Goals as goal

pub returns-then-not-is_scale : goal.returns-then-not-is_scale
unfolding fits_defined
returns-then-not-is_scale c =
    let a = c.args in
    let z = to_z-of_z w8 a.scale c.ranges.scale in
    let e : is_scale a.scale ≡ false = sym (c.is_scale.ensures ∙ ap is_scale z) ∙ not-true c.is_scale.result c.if-not-is_scale.true-raw in
    simp e

pub returns-then-signed : goal.returns-then-signed
returns-then-signed c =
    let a = c.args in
    let z = to_z-of_z w8 a.scale c.ranges.scale in
    let e : is_scale a.scale ≡ true = sym (c.is_scale.ensures ∙ ap is_scale z) ∙ not-false c.is_scale.result c.if-not-is_scale.false-raw in
    let i = to_z-of_z w64 a.integer c.ranges.integer in
    let m : c.unsigned_abs-size.result ≡ nat_abs a.integer = c.unsigned_abs-size.ensures.value ∙ ap nat_abs i in
    ap (λ (k : ℕ). ltb k c.half.result) m ∙ ap (ltb (nat_abs a.integer)) c.half.ensures ∙ fits_signed a.width a.integer a.scale (wide_of a.width c.requires) e
    ∙ sym (ap (λ (g : Bool). fits_defined g a.width a.integer a.scale) c.if-signed.true)

pub returns-then-integer-lt0 : goal.returns-then-integer-lt0
returns-then-integer-lt0 c =
    let a = c.args in
    let z = to_z-of_z w8 a.scale c.ranges.scale in
    let e : is_scale a.scale ≡ true = sym (c.is_scale.ensures ∙ ap is_scale z) ∙ not-false c.is_scale.result c.if-not-is_scale.false-raw in
    fits_negative a.width a.integer a.scale (tested a.integer c.ranges.integer true c.if-integer-lt0.true) e
    ∙ sym (ap (λ (g : Bool). fits_defined g a.width a.integer a.scale) c.if-signed.false)

pub returns : goal.returns
returns c =
    let a = c.args in
    let z = to_z-of_z w8 a.scale c.ranges.scale in
    let e : is_scale a.scale ≡ true = sym (c.is_scale.ensures ∙ ap is_scale z) ∙ not-false c.is_scale.result c.if-not-is_scale.false-raw in
    let i = to_z-of_z w64 a.integer c.ranges.integer in
    let m : c.unsigned_abs-size.result ≡ nat_abs a.integer = c.unsigned_abs-size.ensures.value ∙ ap nat_abs i in
    ap (λ (k : ℕ). ltb k c.top.result) m ∙ ap (ltb (nat_abs a.integer)) c.top.ensures
    ∙ fits_unsigned a.width a.integer a.scale c.ranges.integer (tested a.integer c.ranges.integer false c.if-integer-lt0.false) e
    ∙ sym (ap (λ (g : Bool). fits_defined g a.width a.integer a.scale) c.if-signed.false)
