-- `text::count_at` meets its contract: each way out by its tests. Assumes nothing.
use Rattle.text.proofs.Exact.{count_is}
use lib.ListN.{length}
use Prim.Native.Nat.{◌+◌}
use borrow.Author.Tests.{not-true, not-false, leb-true, lt-leb, le-leb}
use mathlib.Core.Path.{sym, ◌∙◌}
use Rattle.text.proofs.count_at.Goals as goal

pub returns-then-not-holds : goal.returns-then-not-holds
returns-then-not-holds c = simp (sym c.holds.ensures ∙ not-true c.holds.result c.if-not-holds.true-raw)

pub returns-then-width-gt17 : goal.returns-then-width-gt17
returns-then-width-gt17 c =
    let h = sym c.holds.ensures ∙ not-false c.holds.result c.if-not-holds.false-raw in
    simp (h, lt-leb _ _ c.if-width-gt17.true)

pub is_number-requires : goal.is_number-requires
is_number-requires c =
    let a = c.args in
    let h = sym c.holds.ensures ∙ not-false c.holds.result c.if-not-holds.false-raw in
    leb-true (a.at + a.width) (length a.bytes.now) h

pub returns-then-not-is_number : goal.returns-then-not-is_number
returns-then-not-is_number c =
    let h = sym c.holds.ensures ∙ not-false c.holds.result c.if-not-holds.false-raw in
    let n = sym c.is_number.ensures ∙ not-true c.is_number.result c.if-not-is_number.true-raw in
    simp (h, le-leb _ _ c.if-width-gt17.false, n)

pub number_of-requires : goal.number_of-requires
number_of-requires c =
    let a = c.args in
    let h = sym c.holds.ensures ∙ not-false c.holds.result c.if-not-holds.false-raw in
    (c.if-width-gt17.false, leb-true (a.at + a.width) (length a.bytes.now) h)

pub returns : goal.returns
returns c =
    let a = c.args in
    let h = sym c.holds.ensures ∙ not-false c.holds.result c.if-not-holds.false-raw in
    let n = sym c.is_number.ensures ∙ not-false c.is_number.result c.if-not-is_number.false-raw in
    c.number_of.ensures ∙ sym (count_is a.bytes.now a.at a.width n c.if-width-gt17.false (leb-true (a.at + a.width) (length a.bytes.now) h))
