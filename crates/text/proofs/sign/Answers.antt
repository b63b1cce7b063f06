-- `text::sign` meets its contract: the tests are the definition's. Assumes nothing.
use borrow.Author.Tests.{eq-eqb, ne_eqb, not-true, not-false}
use borrow.Author.Rules.{rules}
use Rattle.text.proofs.sign.Goals as goal

pub returns-then-not-signed : goal.returns-then-not-signed
returns-then-not-signed c = simp (not-true c.args.signed c.if-not-signed.true-raw) (search rules)

pub returns-then-b-eq43 : goal.returns-then-b-eq43
returns-then-b-eq43 c = simp (not-false c.args.signed c.if-not-signed.false-raw, eq-eqb _ _ c.if-b-eq43.true) (search rules)

pub returns-then-b-eq45 : goal.returns-then-b-eq45
returns-then-b-eq45 c = simp (not-false c.args.signed c.if-not-signed.false-raw, ne_eqb _ _ c.if-b-eq43.false, eq-eqb _ _ c.if-b-eq45.true) (search rules)

pub returns-else-b-eq45 : goal.returns-else-b-eq45
returns-else-b-eq45 c = simp (not-false c.args.signed c.if-not-signed.false-raw, ne_eqb _ _ c.if-b-eq43.false, ne_eqb _ _ c.if-b-eq45.false) (search rules)
