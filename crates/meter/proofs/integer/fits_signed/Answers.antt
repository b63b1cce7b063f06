-- `meter::integer::fits_signed` meets its contract: the width, then the number's size, by its sign. Assumes nothing.
use Rattle.meter.proofs.IntegerLaws.{size_neg, size_pos}
use Rattle.meter.proofs.Signs.{tested}
use Rattle.meter.specs.Integer.{is_width, fits_signed}
use mir.ValLaws.{to_z-of_z}
use mir.Syntax.{w64}
use lib.IntN.{nat_abs}
use borrow.Author.Tests.{not-true, not-false}
use mathlib.Core.Bool.{true, false}
use mathlib.Core.Path.{◌≡◌, sym, ap, ◌∙◌}
use Rattle.meter.proofs.integer.fits_signed.Goals as goal

pub returns-then-not-is_width : goal.returns-then-not-is_width
unfolding fits_signed
returns-then-not-is_width c =
    let w : is_width c.args.width ≡ false = sym c.is_width.ensures ∙ not-true c.is_width.result c.if-not-is_width.true-raw in
    simp w

pub half-h-requires : goal.half-h-requires
half-h-requires c = sym c.is_width.ensures ∙ not-false c.is_width.result c.if-not-is_width.false-raw

pub returns-then-z-lt0 : goal.returns-then-z-lt0
unfolding fits_signed
returns-then-z-lt0 c =
    let w : is_width c.args.width ≡ true = sym c.is_width.ensures ∙ not-false c.is_width.result c.if-not-is_width.false-raw in
    let m : c.unsigned_abs.result ≡ nat_abs c.args.z = c.unsigned_abs.ensures.value ∙ ap nat_abs (to_z-of_z w64 c.args.z c.ranges.z) in
    simp (w, m, c.half-h.ensures) (size_neg c.args.z _ (tested c.args.z c.ranges.z true c.if-z-lt0.true))

pub returns : goal.returns
unfolding fits_signed
returns c =
    let w : is_width c.args.width ≡ true = sym c.is_width.ensures ∙ not-false c.is_width.result c.if-not-is_width.false-raw in
    let m : c.unsigned_abs-2.result ≡ nat_abs c.args.z = c.unsigned_abs-2.ensures.value ∙ ap nat_abs (to_z-of_z w64 c.args.z c.ranges.z) in
    simp (w, m, c.half-h.ensures) (size_pos c.args.z _ (tested c.args.z c.ranges.z false c.if-z-lt0.false))
