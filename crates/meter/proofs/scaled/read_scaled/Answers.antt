-- `meter::scaled::read_scaled` meets its contract: the part, the width, the undefined integer, then the scale and the integer. Assumes nothing.
use mir.Val.{to_z, of_z}
use mir.Val.{to_z, of_z}
use mir.Val.{to_z, of_z}
use Rattle.meter.proofs.ScaledLaws.{none_word, read_none, read_some}
use Rattle.meter.proofs.IntegerLaws.{wide_of, be_at_lt}
use Rattle.meter.specs.Scaled.{is_none, is_none_word, defined_of}
use Rattle.meter.specs.Integer.{is_width, be_at, twos}
use Rattle.meter.specs.Lent.{inside}
use mir.Val.{to_z, of_z}
use mir.ValLaws.{to_z-of_z}
use mir.Syntax.{w8}
use lib.IntN.{ℤ}
use lib.ListN.{length, get_or}
use Prim.Native.Nat.{ℕ, ◌+◌}
use native.Mathlib.Omega.{arith}
use borrow.Author.Tests.{not-true, not-false, leb-true}
use mathlib.Core.Bool.{true, false}
use mathlib.Core.Path.{◌≡◌, sym, ap, ◌∙◌}
use Rattle.meter.proofs.scaled.read_scaled.Goals as goal

pub returns-then-not-holds_scaled : goal.returns-then-not-holds_scaled
returns-then-not-holds_scaled c =
    let a = c.args in
    let i : inside a.bytes.now a.at (1 + a.width) ≡ false = sym c.holds_scaled.ensures ∙ not-true c.holds_scaled.result c.if-not-holds_scaled.true-raw in
    simp i

pub returns-then-not-is_width : goal.returns-then-not-is_width
returns-then-not-is_width c =
    let a = c.args in
    let i : inside a.bytes.now a.at (1 + a.width) ≡ true = sym c.holds_scaled.ensures ∙ not-false c.holds_scaled.result c.if-not-holds_scaled.false-raw in
    let w : is_width c.args.width ≡ false = sym c.is_width.ensures ∙ not-true c.is_width.result c.if-not-is_width.true-raw in
    simp (i, w)

pub overflow_add-at : goal.overflow_add-at
overflow_add-at c =
    let a = c.args in
    let i : inside a.bytes.now a.at (1 + a.width) ≡ true = sym c.holds_scaled.ensures ∙ not-false c.holds_scaled.result c.if-not-holds_scaled.false-raw in
    omega (arith, leb-true (a.at + (1 + a.width)) (length a.bytes.now) i)

pub be-word-requires : goal.be-word-requires
be-word-requires c =
    let a = c.args in
    let i : inside a.bytes.now a.at (1 + a.width) ≡ true = sym c.holds_scaled.ensures ∙ not-false c.holds_scaled.result c.if-not-holds_scaled.false-raw in
    let w : is_width c.args.width ≡ true = sym c.is_width.ensures ∙ not-false c.is_width.result c.if-not-is_width.false-raw in
    ((wide_of _ w).small, omega (arith, leb-true (a.at + (1 + a.width)) (length a.bytes.now) i))

pub is_none_word-requires : goal.is_none_word-requires
is_none_word-requires c =
    let w : is_width c.args.width ≡ true = sym c.is_width.ensures ∙ not-false c.is_width.result c.if-not-is_width.false-raw in
    w

pub returns-then-is_none_word : goal.returns-then-is_none_word
returns-then-is_none_word c =
    let a = c.args in
    let i : inside a.bytes.now a.at (1 + a.width) ≡ true = sym c.holds_scaled.ensures ∙ not-false c.holds_scaled.result c.if-not-holds_scaled.false-raw in
    let w : is_width c.args.width ≡ true = sym c.is_width.ensures ∙ not-false c.is_width.result c.if-not-is_width.false-raw in
    let b = be_at_lt a.bytes.now (λ k. (c.shared_slice_known-1.given k).fits) (a.at + 1) a.width in
    let be = c.be-word.ensures in
    let nw : is_none a.signed a.width (be_at a.bytes.now (a.at + 1) a.width) ≡ true = none_word a.signed a.width _ (wide_of a.width w) b ∙ ap (is_none_word a.signed a.width) (sym be) ∙ sym c.is_none_word.ensures ∙ c.if-is_none_word.true in
    sym (read_none a.signed a.width a.bytes.now a.at i w nw)

pub bounds-bytes-at : goal.bounds-bytes-at
bounds-bytes-at c =
    let a = c.args in
    let i : inside a.bytes.now a.at (1 + a.width) ≡ true = sym c.holds_scaled.ensures ∙ not-false c.holds_scaled.result c.if-not-holds_scaled.false-raw in
    omega (arith, leb-true (a.at + (1 + a.width)) (length a.bytes.now) i)

pub defined-requires : goal.defined-requires
defined-requires c =
    let a = c.args in
    let w : is_width c.args.width ≡ true = sym c.is_width.ensures ∙ not-false c.is_width.result c.if-not-is_width.false-raw in
    let b = be_at_lt a.bytes.now (λ k. (c.shared_slice_known-1.given k).fits) (a.at + 1) a.width in
    (w, omega (arith, c.be-word.ensures, b))

pub returns : goal.returns
returns c =
    let a = c.args in
    let i : inside a.bytes.now a.at (1 + a.width) ≡ true = sym c.holds_scaled.ensures ∙ not-false c.holds_scaled.result c.if-not-holds_scaled.false-raw in
    let w : is_width c.args.width ≡ true = sym c.is_width.ensures ∙ not-false c.is_width.result c.if-not-is_width.false-raw in
    let b = be_at_lt a.bytes.now (λ k. (c.shared_slice_known-1.given k).fits) (a.at + 1) a.width in
    let be = c.be-word.ensures in
    let nw : is_none a.signed a.width (be_at a.bytes.now (a.at + 1) a.width) ≡ false = none_word a.signed a.width _ (wide_of a.width w) b ∙ ap (is_none_word a.signed a.width) (sym be) ∙ sym c.is_none_word.ensures ∙ c.if-is_none_word.false in
    let sc : to_z w8 (of_z w8 c.scale_of.result) ≡ twos 128 (get_or a.bytes.now a.at 0) = to_z-of_z w8 c.scale_of.result (record { sfits = c.scale_of.type_inv }) ∙ c.scale_of.ensures in
    c.defined.ensures ∙ ap (λ (y : ℤ). defined_of a.signed a.width c.be-word.result y) sc ∙ ap (λ (v : ℕ). defined_of a.signed a.width v (twos 128 (get_or a.bytes.now a.at 0))) be
    ∙ sym (read_some a.signed a.width a.bytes.now a.at i w nw)
