-- `record::header::size_at` meets its contract: the four bytes are read where the eight are there. Assumes nothing.
use Prim.Native.Nat.{ℕ, ◌+◌, ◌≤◌}
use native.Mathlib.Omega.{arith}
use mathlib.Core.Path.{◌≡◌, sym, ◌∙◌}
use mathlib.Core.Bool.{true}
use mathlib.Core.List.{List}
use lib.ListN.{length}
use borrow.Author.Tests.{not-true, not-false, leb-true}
use Rattle.meter.specs.Lent.{inside}
use Rattle.record.proofs.header.size_at.Goals as goal
use Rattle.record.proofs.header.size_at.Goals.{Else-not-holds}

abbrev lent : (c : Else-not-holds) → List ℕ
lent c = c.args.bytes.now

abbrev from : (c : Else-not-holds) → ℕ
from c = c.args.at

whole : (c : Else-not-holds) → inside (lent c) (from c) 8 ≡ true
whole c = sym c.holds.ensures ∙ not-false c.holds.result c.if-not-holds.false-raw

there : (c : Else-not-holds) → from c + 8 ≤ length (lent c)
there c = leb-true (from c + 8) (length (lent c)) (whole c)

pub returns-then-not-holds : goal.returns-then-not-holds
returns-then-not-holds c =
    let i = sym c.holds.ensures ∙ not-true c.holds.result c.if-not-holds.true-raw in
    simp i

pub overflow_add-at : goal.overflow_add-at
overflow_add-at c = record { fits = omega (arith, there c) }

pub word_at-requires : goal.word_at-requires
word_at-requires c = omega (arith, there c)

pub returns : goal.returns
returns c = let i = whole (goal.at.returns c).Else-not-holds in rw i c.word_at.ensures
