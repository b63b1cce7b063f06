-- `judge::pointers::look_at` meets its contract: its tests are the parts of `Met`. Assumes nothing.
use Rattle.std.proofs.Common.{sym, ◌∙◌, arith}
use Rattle.judge.proofs.pointers.look_at.Goals as goal

pub word-target-requires : goal.word-target-requires
word-target-requires c = omega (arith, c.requires.ipr c.if-s-q-ne3.false)

pub triple-requires : goal.triple-requires
triple-requires c = omega (arith, c.requires.ipr c.if-s-q-ne3.false)

pub returns-then-triple-kind : goal.returns-then-triple-kind
returns-then-triple-kind c =
    record { ipr = c.if-s-q-ne3.false; not_met = λ m. m.unlike (omega (arith, c.triple.ensures.1, c.if-triple-kind.true)) (sym c.triple.ensures.0 ∙ c.if-triple-kind.true) }
