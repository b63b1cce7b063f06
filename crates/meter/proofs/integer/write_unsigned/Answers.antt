-- `meter::integer::write_unsigned` meets its contract: `write_word` at the value. Assumes nothing.
use Rattle.meter.specs.Integer.{stored}
use Rattle.meter.specs.Lent.{writes, wrote}
use mathlib.Core.Bool.{Bool}
use mathlib.Core.Path.{ap, ◌∙◌}
use Rattle.meter.proofs.integer.write_unsigned.Goals as goal

pub returns : goal.returns
returns c =
    let a = c.args in
    let e = c.fits_unsigned.ensures in
    let p = c.write_word.ensures in
    (p.0 ∙ ap (writes a.room.now a.width) e, p.1 ∙ ap (λ (b : Bool). wrote a.room.now a.width b (stored a.room.now 0 a.width a.value)) e)
