-- `meter::scaled::defined` meets its contract: the scale, then the integer by its sign. Assumes nothing.
use mir.Val.{to_z, of_z}
use Rattle.meter.specs.Numeral as S
use Rattle.meter.proofs.ScaledLaws.{signed_below}
use Rattle.meter.proofs.IntegerLaws.{wide_of}
use Rattle.meter.specs.Scaled.{is_scale, integer_of, defined_of}
use Rattle.meter.specs.Integer.{twos, half_of}
use Rattle.calendar.specs.Said.{answer}
use mir.ValLaws.{to_z-of_z, to_z_pos}
use mir.Syntax.{w8, w64}
use Prim.Native.Nat.{ℕ, ◌≤◌, ◌<◌}
use lib.IntN.{ℤ, pos}
use borrow.Author.Tests.{not-true, not-false, lt-ltb, le-ltb}
use native.Mathlib.Omega.{arith}
use mathlib.Core.Bool.{Bool, true, false}
use mathlib.Core.Path.{◌≡◌, sym, ap, ◌∙◌}
use Rattle.meter.proofs.scaled.defined.Goals as goal

pub returns-then-not-is_scale : goal.returns-then-not-is_scale
returns-then-not-is_scale c =
    let a = c.args in
    let z = to_z-of_z w8 a.scale c.ranges.scale in
    let e : is_scale a.scale ≡ false = sym (c.is_scale.ensures ∙ ap is_scale z) ∙ not-true c.is_scale.result c.if-not-is_scale.true-raw in
    simp e

pub signed_of-integer-requires : goal.signed_of-integer-requires
signed_of-integer-requires c =
    let f = wide_of c.args.width c.requires.0 in
    (omega (arith, c.half.ensures, f.some), omega (arith, c.half.ensures, f.fits), omega (arith, c.half.ensures, f.halves, c.requires.1))

pub returns-then-signed : goal.returns-then-signed
unfolding integer_of
returns-then-signed c =
    let a = c.args in
    let z = to_z-of_z w8 a.scale c.ranges.scale in
    let e : is_scale a.scale ≡ true = sym (c.is_scale.ensures ∙ ap is_scale z) ∙ not-false c.is_scale.result c.if-not-is_scale.false-raw in
    let i : c.signed_of-integer.result ≡ twos (half_of a.width) a.word = c.signed_of-integer.ensures ∙ ap (λ (h : ℕ). twos h a.word) c.half.ensures in
    let b = signed_below a.width a.word (wide_of a.width c.requires.0) c.requires.1 in
    ap answer (ap (λ (y : ℤ). S.Number y (to_z w8 (of_z w8 a.scale))) (to_z-of_z w64 c.signed_of-integer.result (record { sfits = c.signed_of-integer.type_inv }) ∙ i) ∙ ap (S.Number (twos (half_of a.width) a.word)) z)
    ∙ sym (ap (λ (g : Bool). defined_of g a.width a.word a.scale) c.if-signed.true ∙ simp (e, b))

pub returns-then-word-gt9223372036854775807 : goal.returns-then-word-gt9223372036854775807
unfolding integer_of
returns-then-word-gt9223372036854775807 c =
    let a = c.args in
    let z = to_z-of_z w8 a.scale c.ranges.scale in
    let e : is_scale a.scale ≡ true = sym (c.is_scale.ensures ∙ ap is_scale z) ∙ not-false c.is_scale.result c.if-not-is_scale.false-raw in
    let h : 0x8000_0000_0000_0000 ≤ a.word = omega arith in
    sym (ap (λ (g : Bool). defined_of g a.width a.word a.scale) c.if-signed.false ∙ simp (e, le-ltb a.word 0x8000_0000_0000_0000 h))

pub returns : goal.returns
unfolding integer_of
returns c =
    let a = c.args in
    let z = to_z-of_z w8 a.scale c.ranges.scale in
    let e : is_scale a.scale ≡ true = sym (c.is_scale.ensures ∙ ap is_scale z) ∙ not-false c.is_scale.result c.if-not-is_scale.false-raw in
    let h : a.word < 0x8000_0000_0000_0000 = omega arith in
    ap answer (ap (λ (y : ℤ). S.Number y (to_z w8 (of_z w8 a.scale))) (to_z_pos w64 a.word h) ∙ ap (S.Number (pos a.word)) z)
    ∙ sym (ap (λ (g : Bool). defined_of g a.width a.word a.scale) c.if-signed.false ∙ simp (e, lt-ltb a.word 0x8000_0000_0000_0000 h))
