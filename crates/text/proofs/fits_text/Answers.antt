-- `text::fits_text` meets its contract: the width, then each byte. Assumes nothing.
use borrow.Author.Tests.{eq-eqb, ne_eqb}
use mathlib.Core.Path.{sym}
use Rattle.text.proofs.fits_text.Goals as goal

pub returns-then-text-width : goal.returns-then-text-width
returns-then-text-width c = simp (ne_eqb _ _ c.if-text-width.true)

pub returns : goal.returns
returns c = let e = c.if-text-width.false in simp (eq-eqb _ _ e, sym (rw e at c.run.ensures.0))
