-- `meter::scaled::none_bits` meets its contract: two's complement of the lowest, or top. Assumes nothing.
use Rattle.meter.proofs.ScaledLaws.{none_signed, none_unsigned}
use Rattle.meter.proofs.IntegerLaws.{wide_of}
use Rattle.meter.specs.Scaled.{none_of}
use Rattle.meter.specs.Integer.{word_of}
use Prim.Native.Nat.{ℕ, ◌-◌}
use native.Mathlib.Omega.{arith}
use mathlib.Core.Bool.{Bool}
use mathlib.Core.Path.{sym, ap, ◌∙◌}
use Rattle.meter.proofs.scaled.none_bits.Goals as goal

pub overflow_sub-result : goal.overflow_sub-result
overflow_sub-result c = omega (arith, c.half.ensures, (wide_of c.args.width c.requires).some)

pub returns-then-signed : goal.returns-then-signed
returns-then-signed c =
    let a = c.args in
    ap (λ (h : ℕ). 0xffff_ffff_ffff_ffff - (h - 1)) c.half.ensures ∙ none_signed a.width (wide_of a.width c.requires) ∙ sym (ap (λ (b : Bool). word_of (none_of b a.width)) c.if-signed.true)

pub returns : goal.returns
returns c =
    let a = c.args in
    c.top.ensures ∙ none_unsigned a.width ∙ sym (ap (λ (b : Bool). word_of (none_of b a.width)) c.if-signed.false)
