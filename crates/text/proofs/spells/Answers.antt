-- `text::spells` meets its contract: the sign, then the size against a power of ten. Assumes nothing.
use Rattle.text.proofs.Laws.{spelled_above, spelled_unsigned, spelled_below}
use Rattle.meter.proofs.Signs.{tested}
use Rattle.text.specs.Writing.{spelled}
use mir.ValLaws.{to_z-of_z}
use mir.Syntax.{w64}
use lib.IntN.{nat_abs}
use lib.Dec.{ltb}
use Prim.Native.Nat.{ℕ}
use borrow.Author.Tests.{not-true, not-false}
use mathlib.Core.Bool.{Bool, true, false}
use mathlib.Core.Path.{sym, ap, ◌∙◌}
use Rattle.text.proofs.spells.Goals as goal

pub returns-then-not-signed : goal.returns-then-not-signed
returns-then-not-signed c =
    let a = c.args in
    spelled_unsigned a.width a.z (tested a.z c.ranges.z true c.if-z-lt0.true) ∙ sym (ap (λ (b : Bool). spelled b a.width a.z) (not-true a.signed c.if-not-signed.true-raw))

pub returns-then-z-lt0 : goal.returns-then-z-lt0
returns-then-z-lt0 c =
    let a = c.args in
    let m = c.unsigned_abs-size.ensures.value ∙ ap nat_abs (to_z-of_z w64 a.z c.ranges.z) in
    ap (λ (k : ℕ). ltb k c.power.result) m ∙ ap (ltb (nat_abs a.z)) c.power.ensures
    ∙ spelled_below a.width a.z c.requires.0 (tested a.z c.ranges.z true c.if-z-lt0.true) ∙ sym (ap (λ (b : Bool). spelled b a.width a.z) (not-false a.signed c.if-not-signed.false-raw))

pub returns : goal.returns
returns c =
    let a = c.args in
    let m = c.unsigned_abs-size.ensures.value ∙ ap nat_abs (to_z-of_z w64 a.z c.ranges.z) in
    ap (λ (k : ℕ). ltb k c.power-2.result) m ∙ ap (ltb (nat_abs a.z)) c.power-2.ensures
    ∙ spelled_above a.signed a.width a.z (tested a.z c.ranges.z false c.if-z-lt0.false)
