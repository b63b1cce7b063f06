-- `mphr::lines::count_fits` meets its contract: the number taken apart. Assumes nothing.
use Rattle.text.specs.Writing.{fits_number}
use Rattle.mphr.specs.Lines.{count_fits}
use mathlib.Core.Bool.{false}
use mathlib.Core.Path.{sym, ap, ◌∙◌}
use Rattle.mphr.proofs.lines.count_fits.Goals as goal

pub returns-in-Some : goal.returns-in-Some
returns-in-Some c =
    let a = c.args in
    let t = c.in-Some.is in
    c.fits_number.ensures ∙ ap (fits_number false a.w) t ∙ sym (ap (count_fits a.w) t)
