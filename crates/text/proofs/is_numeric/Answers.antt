-- `text::is_numeric` meets its contract: a number, or x's. Assumes nothing.
use mathlib.Core.Path.{sym, ◌∙◌}
use Rattle.text.proofs.is_numeric.Goals as goal

pub returns-then-is_number : goal.returns-then-is_number
returns-then-is_number c = simp (sym c.is_number.ensures ∙ c.if-is_number.true)

pub returns : goal.returns
returns c = simp (sym c.is_number.ensures ∙ c.if-is_number.false) c.is_x.ensures
