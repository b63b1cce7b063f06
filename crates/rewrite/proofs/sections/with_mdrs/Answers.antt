-- `rewrite::sections::with_mdrs` meets its contract: what is left are MDRs (SectionLaws). Assumes nothing.
use mathlib.Core.Path.{refl}
use Rattle.rewrite.proofs.SectionLaws.{sections_mdrs}
use Rattle.rewrite.proofs.sections.with_mdrs.Goals as goal

pub returns : goal.returns
returns c =
    sections_mdrs c.requires _ c.first_start.ensures c.last_stop.ensures record { sphr = refl; ipr = refl; global = refl; variable = refl; start = refl; stop = refl }
