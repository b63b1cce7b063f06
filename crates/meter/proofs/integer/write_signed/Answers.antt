-- `meter::integer::write_signed` meets its contract: `write_word` at the bits of the value. Assumes nothing.
use Rattle.meter.specs.Integer.{stored, word_of, fits_signed}
use Rattle.meter.specs.Lent.{writes, wrote}
use mir.ValLaws.{to_z-of_z}
use mir.Syntax.{w64}
use Prim.Native.Nat.{ℕ}
use mathlib.Core.Bool.{Bool}
use mathlib.Core.Path.{ap, ◌∙◌}
use Rattle.meter.proofs.integer.write_signed.Goals as goal

pub returns : goal.returns
returns c =
    let a = c.args in
    let z = to_z-of_z w64 a.value c.ranges.value in
    let e = c.fits_signed.ensures ∙ ap (fits_signed a.width) z in
    let g = c.bits_of.ensures ∙ ap word_of z in
    let p = c.write_word.ensures in
    let r = a.room.now in (
      p.0 ∙ ap (writes c.args.room.now a.width) e,
      p.1 ∙ ap (λ (b : Bool). wrote c.args.room.now a.width b (stored c.args.room.now 0 a.width c.bits_of.result)) e
          ∙ ap (λ (v : ℕ). wrote c.args.room.now a.width (fits_signed a.width a.value) (stored c.args.room.now 0 a.width v)) g,
    )
