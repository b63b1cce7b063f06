-- `meter::scaled::is_none_word` meets its contract: half, or top. Assumes nothing.
use Rattle.meter.specs.Scaled.{is_none_word}
use lib.Dec.{eqb}
use mathlib.Core.Bool.{Bool}
use mathlib.Core.Path.{sym, ap, ◌∙◌}
use Rattle.meter.proofs.scaled.is_none_word.Goals as goal

pub returns-then-signed : goal.returns-then-signed
returns-then-signed c =
    let a = c.args in
    ap (eqb a.word) c.half.ensures ∙ sym (ap (λ (b : Bool). is_none_word b a.width a.word) c.if-signed.true)

pub returns : goal.returns
returns c =
    let a = c.args in
    ap (eqb a.word) c.top.ensures ∙ sym (ap (λ (b : Bool). is_none_word b a.width a.word) c.if-signed.false)
