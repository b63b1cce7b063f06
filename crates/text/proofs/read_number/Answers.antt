-- `text::read_number` meets its contract: each way out by its tests (Laws). Assumes nothing.
use Rattle.text.proofs.Laws.{some_left, read_wide, read_x, read_wrong, read_whole}
use mir.ValLaws.{to_z-of_z}
use mir.Syntax.{w64}
use lib.ListN.{length}
use Prim.Native.Nat.{◌+◌}
use borrow.Author.Tests.{not-true, not-false, leb-true}
use mathlib.Core.Path.{sym, ◌∙◌}
use Rattle.text.proofs.read_number.Goals as goal

pub returns-then-not-holds : goal.returns-then-not-holds
returns-then-not-holds c = simp (sym c.holds.ensures ∙ not-true c.holds.result c.if-not-holds.true-raw)

pub returns-then-width-gt17 : goal.returns-then-width-gt17
returns-then-width-gt17 c =
    let a = c.args in
    let h = sym c.holds.ensures ∙ not-false c.holds.result c.if-not-holds.false-raw in
    read_wide a.signed a.bytes.now a.at a.width h c.if-width-gt17.true

pub is_x-requires : goal.is_x-requires
is_x-requires c =
    let a = c.args in
    let h = sym c.holds.ensures ∙ not-false c.holds.result c.if-not-holds.false-raw in
    leb-true (a.at + a.width) (length a.bytes.now) h

pub returns-then-is_x : goal.returns-then-is_x
returns-then-is_x c =
    let a = c.args in
    let h = sym c.holds.ensures ∙ not-false c.holds.result c.if-not-holds.false-raw in
    read_x a.signed a.bytes.now a.at a.width h c.if-width-gt17.false (sym c.is_x.ensures ∙ c.if-is_x.true)

pub is_number-requires : goal.is_number-requires
is_number-requires c =
    let a = c.args in
    let h = sym c.holds.ensures ∙ not-false c.holds.result c.if-not-holds.false-raw in
    leb-true (a.at + a.width) (length a.bytes.now) h

pub returns-then-not-is_number : goal.returns-then-not-is_number
returns-then-not-is_number c =
    let a = c.args in
    let h = sym c.holds.ensures ∙ not-false c.holds.result c.if-not-holds.false-raw in
    read_wrong a.signed a.bytes.now a.at a.width h c.if-width-gt17.false (sym c.is_x.ensures ∙ c.if-is_x.false) (sym c.is_number.ensures ∙ not-true c.is_number.result c.if-not-is_number.true-raw)

pub integer-requires : goal.integer-requires
integer-requires c =
    let a = c.args in
    let h = sym c.holds.ensures ∙ not-false c.holds.result c.if-not-holds.false-raw in
    let n = sym c.is_number.ensures ∙ not-false c.is_number.result c.if-not-is_number.false-raw in
    (c.if-width-gt17.false, leb-true (a.at + a.width) (length a.bytes.now) h, some_left a.signed a.bytes.now a.at a.width n)

pub returns : goal.returns
returns c =
    let a = c.args in
    let h = sym c.holds.ensures ∙ not-false c.holds.result c.if-not-holds.false-raw in
    let n = sym c.is_number.ensures ∙ not-false c.is_number.result c.if-not-is_number.false-raw in
    read_whole a.signed a.bytes.now a.at a.width h c.if-width-gt17.false (sym c.is_x.ensures ∙ c.if-is_x.false) n _ (to_z-of_z w64 c.integer.result (record { sfits = c.integer.type_inv }) ∙ c.integer.ensures)
