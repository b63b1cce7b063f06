-- `mphr::names::matches` meets its contract: the length, the eights and the last eight decide (QuickLaws). Assumes nothing.
use mathlib.Core.Path.{sym, ◌∙◌}
use native.Mathlib.Omega.{arith}
use Prim.Native.Nat.{◌≤◌}
use lib.ListN.{length}
use borrow.Author.Tests.{not-true, not-false}
use Rattle.mphr.proofs.QuickLaws.{width_no, first_no, second_no, third_no, length_is, least, last_decides}
use Rattle.mphr.proofs.names.matches.Goals as goal
use Rattle.mphr.proofs.names.matches.Goals.{Else-row-n}

pub returns-then-row-n : goal.returns-then-row-n
returns-then-row-n c =
    width_no c.args.name.now c.args.k c.requires c.words-row.result c.words-row.ensures c.if-row-n.true

pub returns-then-not-agrees : goal.returns-then-not-agrees
returns-then-not-agrees c =
    first_no c.args.name.now c.args.k c.requires c.words-row.result c.words-row.ensures (sym c.agrees.ensures ∙ not-true c.agrees.result c.if-not-agrees.true-raw)

pub returns-then-not-agrees-2 : goal.returns-then-not-agrees-2
returns-then-not-agrees-2 c =
    second_no c.args.name.now c.args.k c.requires c.words-row.result c.words-row.ensures (sym c.agrees-2.ensures ∙ not-true c.agrees-2.result c.if-not-agrees-2.true-raw)

pub returns-then-not-agrees-3 : goal.returns-then-not-agrees-3
returns-then-not-agrees-3 c =
    third_no c.args.name.now c.args.k c.requires c.words-row.result c.words-row.ensures (sym c.agrees-3.ensures ∙ not-true c.agrees-3.result c.if-not-agrees-3.true-raw)

-- the name is as long as the row's, which has nine bytes at least
long : (c : Else-row-n) → 9 ≤ length c.args.name.now
long c =
    omega (arith, length_is c.args.name.now c.args.k c.requires c.words-row.result c.words-row.ensures c.if-row-n.false, least c.args.k c.requires)

pub overflow_sub-n : goal.overflow_sub-n
overflow_sub-n c = omega (arith, long (goal.at.overflow_sub-n c).Else-row-n)

pub eight-requires : goal.eight-requires
eight-requires c = omega (arith, long (goal.at.eight-requires c).Else-row-n)

pub returns : goal.returns
returns c =
    last_decides c.args.name.now c.args.k c.requires c.words-row.result c.words-row.ensures (λ j. (c.shared_slice_known-1.given j).fits) c.if-row-n.false
    (sym c.agrees.ensures ∙ not-false c.agrees.result c.if-not-agrees.false-raw)
    (sym c.agrees-2.ensures ∙ not-false c.agrees-2.result c.if-not-agrees-2.false-raw)
    (sym c.agrees-3.ensures ∙ not-false c.agrees-3.result c.if-not-agrees-3.false-raw)
    c.eight.result
    c.eight.ensures
