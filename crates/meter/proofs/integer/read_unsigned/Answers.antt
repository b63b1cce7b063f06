-- `meter::integer::read_unsigned` meets its contract: the part, then the width. Assumes nothing.
use Rattle.calendar.specs.Said.{answer}
use Rattle.meter.proofs.IntegerLaws.{wide_of}
use Rattle.meter.specs.Integer.{is_width}
use Rattle.meter.specs.Lent.{inside}
use borrow.Author.Tests.{not-true, not-false, leb-true}
use mathlib.Core.Bool.{true, false}
use mathlib.Core.Path.{◌≡◌, sym, ap, ◌∙◌}
use Rattle.meter.proofs.integer.read_unsigned.Goals as goal

pub returns-then-not-holds : goal.returns-then-not-holds
returns-then-not-holds c =
    let i : inside c.args.bytes.now c.args.at c.args.width ≡ false = sym c.holds.ensures ∙ not-true c.holds.result c.if-not-holds.true-raw in
    simp i

pub returns-then-not-is_width : goal.returns-then-not-is_width
returns-then-not-is_width c =
    let i : inside c.args.bytes.now c.args.at c.args.width ≡ true = sym c.holds.ensures ∙ not-false c.holds.result c.if-not-holds.false-raw in
    let w : is_width c.args.width ≡ false = sym c.is_width.ensures ∙ not-true c.is_width.result c.if-not-is_width.true-raw in
    simp (i, w)

pub be-requires : goal.be-requires
be-requires c =
    let i : inside c.args.bytes.now c.args.at c.args.width ≡ true = sym c.holds.ensures ∙ not-false c.holds.result c.if-not-holds.false-raw in
    let w : is_width c.args.width ≡ true = sym c.is_width.ensures ∙ not-false c.is_width.result c.if-not-is_width.false-raw in
    ((wide_of _ w).small, leb-true _ _ i)

pub returns : goal.returns
returns c =
    let i : inside c.args.bytes.now c.args.at c.args.width ≡ true = sym c.holds.ensures ∙ not-false c.holds.result c.if-not-holds.false-raw in
    let w : is_width c.args.width ≡ true = sym c.is_width.ensures ∙ not-false c.is_width.result c.if-not-is_width.false-raw in
    simp (i, w) (ap answer c.be.ensures)
