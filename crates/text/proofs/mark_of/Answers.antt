-- `text::mark_of` meets its contract: the tests are the definition's. Assumes nothing.
use borrow.Author.Tests.{eq-eqb, ne_eqb}
use Rattle.text.proofs.mark_of.Goals as goal

pub returns-then-v-ne0 : goal.returns-then-v-ne0
returns-then-v-ne0 c = simp (ne_eqb _ _ c.if-v-ne0.true)

pub returns-then-minus : goal.returns-then-minus
returns-then-minus c = simp (eq-eqb _ _ c.if-v-ne0.false, c.if-minus.true)

pub returns-else-minus : goal.returns-else-minus
returns-else-minus c = simp (eq-eqb _ _ c.if-v-ne0.false, c.if-minus.false)
