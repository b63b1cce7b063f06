-- `meter::general::read_general` meets its contract: each way out by its tests (GeneralCode). Assumes nothing.
use Prim.Native.Nat.{◌+◌}
use native.Mathlib.Omega.{arith}
use borrow.Author.Tests.{not-true, not-false, leb-true}
use mathlib.Core.Path.{sym, ◌∙◌}
use lib.ListN.{length}
use Rattle.meter.proofs.GeneralWrite.{width_low}
use Rattle.meter.proofs.GeneralCode.{width_high, read_short, read_none, read_no_digits, read_no_moment, read_moment}
use Rattle.meter.proofs.general.read_general.Goals as goal

pub overflow_add-n : goal.overflow_add-n
overflow_add-n c = omega (arith, c.digits-n.ensures, width_high c.args.long)

pub returns-then-not-holds : goal.returns-then-not-holds
returns-then-not-holds c =
    let a = c.args in
    read_short a.long a.bytes.now a.at c.digits-n.result c.digits-n.ensures (sym c.holds.ensures ∙ not-true c.holds.result c.if-not-holds.true-raw)

pub is_none-requires : goal.is_none-requires
is_none-requires c = let a = c.args in omega (arith, leb-true (a.at + (c.digits-n.result + 1)) (length a.bytes.now) (sym c.holds.ensures ∙ not-false c.holds.result c.if-not-holds.false-raw))

pub returns-then-is_none : goal.returns-then-is_none
returns-then-is_none c =
    let a = c.args in
    read_none a.long a.bytes.now a.at c.digits-n.result c.digits-n.ensures (sym c.holds.ensures ∙ not-false c.holds.result c.if-not-holds.false-raw) (sym c.is_none.ensures ∙ c.if-is_none.true)

pub is_digits-requires : goal.is_digits-requires
is_digits-requires c = let a = c.args in omega (arith, leb-true (a.at + (c.digits-n.result + 1)) (length a.bytes.now) (sym c.holds.ensures ∙ not-false c.holds.result c.if-not-holds.false-raw))

pub returns-then-not-is_digits : goal.returns-then-not-is_digits
returns-then-not-is_digits c =
    let a = c.args in
    read_no_digits a.long a.bytes.now a.at c.digits-n.result c.digits-n.ensures (sym c.holds.ensures ∙ not-false c.holds.result c.if-not-holds.false-raw) (sym c.is_none.ensures ∙ c.if-is_none.false) (sym c.is_digits.ensures ∙ not-true c.is_digits.result c.if-not-is_digits.true-raw)

pub moment_at-t-requires : goal.moment_at-t-requires
moment_at-t-requires c =
    let a = c.args in
    let l = width_low a.long in
    let h = width_high a.long in
    let e = c.digits-n.ensures in
    let k = leb-true (a.at + (c.digits-n.result + 1)) (length a.bytes.now) (sym c.holds.ensures ∙ not-false c.holds.result c.if-not-holds.false-raw) in
    (omega arith, omega arith, omega arith, sym c.is_digits.ensures ∙ not-false c.is_digits.result c.if-not-is_digits.false-raw)

pub returns-then-not-is_moment : goal.returns-then-not-is_moment
returns-then-not-is_moment c =
    let a = c.args in
    read_no_moment a.long a.bytes.now a.at c.digits-n.result c.digits-n.ensures (sym c.holds.ensures ∙ not-false c.holds.result c.if-not-holds.false-raw) (sym c.is_none.ensures ∙ c.if-is_none.false)
    (sym c.is_digits.ensures ∙ not-false c.is_digits.result c.if-not-is_digits.false-raw) c.moment_at-t.result c.moment_at-t.ensures
    (sym c.is_moment.ensures ∙ not-true c.is_moment.result c.if-not-is_moment.true-raw)

pub returns : goal.returns
returns c =
    let a = c.args in
    read_moment a.long a.bytes.now a.at c.digits-n.result c.digits-n.ensures (sym c.holds.ensures ∙ not-false c.holds.result c.if-not-holds.false-raw) (sym c.is_none.ensures ∙ c.if-is_none.false)
    (sym c.is_digits.ensures ∙ not-false c.is_digits.result c.if-not-is_digits.false-raw) c.moment_at-t.result c.moment_at-t.ensures
    (sym c.is_moment.ensures ∙ not-false c.is_moment.result c.if-not-is_moment.false-raw)
