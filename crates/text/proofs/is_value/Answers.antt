-- `text::is_value` meets its contract: the bounds, then what the kind asks for. Assumes nothing.
use Rattle.text.proofs.Laws.{value_of}
use Rattle.text.specs.declared.Kind.TheVariants as K
use Rattle.text.specs.Field.{is_value}
use lib.ListN.{length}
use Prim.Native.Nat.{◌+◌}
use borrow.Author.Tests.{not-true, not-false, leb-true}
use mathlib.Core.Path.{sym, ◌∙◌}
use Rattle.text.proofs.is_value.Goals as goal

pub returns-then-not-holds : goal.returns-then-not-holds
returns-then-not-holds c = simp (sym c.holds.ensures ∙ not-true c.holds.result c.if-not-holds.true-raw)

pub is_each-requires : goal.is_each-requires
is_each-requires c =
    let a = c.args in
    let h = sym c.holds.ensures ∙ not-false c.holds.result c.if-not-holds.false-raw in
    leb-true (a.at + a.width) (length a.bytes.now) h

pub is_numeric-requires : goal.is_numeric-requires
is_numeric-requires c =
    let a = c.args in
    let h = sym c.holds.ensures ∙ not-false c.holds.result c.if-not-holds.false-raw in
    leb-true (a.at + a.width) (length a.bytes.now) h

pub is_number-requires : goal.is_number-requires
is_number-requires c =
    let a = c.args in
    let h = sym c.holds.ensures ∙ not-false c.holds.result c.if-not-holds.false-raw in
    leb-true (a.at + a.width) (length a.bytes.now) h

pub is_numeric-requires-in-Signed : goal.is_numeric-requires-in-Signed
is_numeric-requires-in-Signed c =
    let a = c.args in
    let h = sym c.holds.ensures ∙ not-false c.holds.result c.if-not-holds.false-raw in
    leb-true (a.at + a.width) (length a.bytes.now) h

pub is_time-requires : goal.is_time-requires
is_time-requires c =
    let a = c.args in
    let h = sym c.holds.ensures ∙ not-false c.holds.result c.if-not-holds.false-raw in
    leb-true (a.at + a.width) (length a.bytes.now) h

pub is_time-requires-in-LongTime : goal.is_time-requires-in-LongTime
is_time-requires-in-LongTime c =
    let a = c.args in
    let h = sym c.holds.ensures ∙ not-false c.holds.result c.if-not-holds.false-raw in
    leb-true (a.at + a.width) (length a.bytes.now) h

pub returns-in-Text : goal.returns-in-Text
unfolding is_value
returns-in-Text c =
    let a = c.args in
    let h = sym c.holds.ensures ∙ not-false c.holds.result c.if-not-holds.false-raw in
    value_of a.kind K.Text a.bytes.now a.at a.width _ h c.in-Text.is c.is_each.ensures

pub returns-in-Unsigned : goal.returns-in-Unsigned
unfolding is_value
returns-in-Unsigned c =
    let a = c.args in
    let h = sym c.holds.ensures ∙ not-false c.holds.result c.if-not-holds.false-raw in
    value_of a.kind K.Unsigned a.bytes.now a.at a.width _ h c.in-Unsigned.is c.is_numeric.ensures

pub returns-in-Count : goal.returns-in-Count
unfolding is_value
returns-in-Count c =
    let a = c.args in
    let h = sym c.holds.ensures ∙ not-false c.holds.result c.if-not-holds.false-raw in
    value_of a.kind K.Count a.bytes.now a.at a.width _ h c.in-Count.is c.is_number.ensures

pub returns-in-Signed : goal.returns-in-Signed
unfolding is_value
returns-in-Signed c =
    let a = c.args in
    let h = sym c.holds.ensures ∙ not-false c.holds.result c.if-not-holds.false-raw in
    value_of a.kind K.Signed a.bytes.now a.at a.width _ h c.in-Signed.is c.is_numeric-in-Signed.ensures

pub returns-in-Time : goal.returns-in-Time
unfolding is_value
returns-in-Time c =
    let a = c.args in
    let h = sym c.holds.ensures ∙ not-false c.holds.result c.if-not-holds.false-raw in
    value_of a.kind K.Time a.bytes.now a.at a.width _ h c.in-Time.is c.is_time.ensures

pub returns-in-LongTime : goal.returns-in-LongTime
unfolding is_value
returns-in-LongTime c =
    let a = c.args in
    let h = sym c.holds.ensures ∙ not-false c.holds.result c.if-not-holds.false-raw in
    value_of a.kind K.LongTime a.bytes.now a.at a.width _ h c.in-LongTime.is c.is_time-in-LongTime.ensures
