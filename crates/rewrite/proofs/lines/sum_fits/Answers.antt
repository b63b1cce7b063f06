-- `rewrite::lines::sum_fits` meets its contract: the line is one of numbers without a sign. Assumes nothing.
use native.Mathlib.Omega.{arith}
use mathlib.Core.Path.{ap, ◌∙◌}
use Rattle.text.specs.Writing.{fits_number}
use Rattle.rewrite.proofs.LineLaws.{place_is}
use Rattle.rewrite.proofs.SumLaws.{sum_fitting}
use mathlib.Core.Bool.{false}
use Rattle.rewrite.proofs.lines.sum_fits.Goals as goal

pub returns : goal.returns
returns c =
    let w = c.in-Ok.place.width in
    c.fits_number.ensures
    ∙ ap (fits_number false w) c.sum_on.ensures
    ∙ sum_fitting c.args.k c.requires.1 c.requires.2 w _ (place_is c.args.k _ _ (omega (arith, c.requires.2)) c.in-Ok.is c.field_place.ensures).1
