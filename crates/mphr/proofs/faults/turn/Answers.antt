-- `mphr::faults::turn` meets its contract: one line of reasons for each way out (TurnLaws). Assumes nothing.
use Rattle.mphr.proofs.TurnLaws.{say_wait, say_2, say_3, say_4, say_5, say_go}
use Rattle.mphr.proofs.LineLaws.{value_is}
use Rattle.mphr.specs.Turning.{TurnedIs}
use borrow.Author.Tests.{not-true, not-false}
use mathlib.Core.Path.{sym, ◌∙◌, subst}
use Rattle.mphr.proofs.faults.turn.Goals as goal

pub returns-then-s-to : goal.returns-then-s-to
returns-then-s-to c = say_wait c.requires.0 c.width_at-w.ensures.0 c.if-s-to.true

pub returns-then-not-is_framed : goal.returns-then-not-is_framed
returns-then-not-is_framed c = subst (TurnedIs c.args.s.now c.args.k) (sym c.refused.ensures) (say_2 c.requires.0 c.width_at-w.ensures.0 c.if-s-to.false (sym c.is_framed.ensures ∙ not-true c.is_framed.result c.if-not-is_framed.true-raw))

pub returns-then-not-is_value : goal.returns-then-not-is_value
returns-then-not-is_value c = subst (TurnedIs c.args.s.now c.args.k) (sym c.refused-then-not-is_value.ensures) (say_3 c.requires.0 c.width_at-w.ensures.0 c.if-s-to.false (sym c.is_framed.ensures ∙ not-false c.is_framed.result c.if-not-is_framed.false-raw) (sym (value_is c.args.s.now c.args.k c.args.at c.width_at-w.result c.requires.0.at_is c.width_at-w.ensures.0 c.kind_at.result c.is_value.result c.kind_at.ensures c.if-s-to.false c.is_value.ensures) ∙ not-true c.is_value.result c.if-not-is_value.true-raw))

pub returns-then-h-eq4 : goal.returns-then-h-eq4
returns-then-h-eq4 c = subst (TurnedIs c.args.s.now c.args.k) (sym c.refused-then-h-eq4.ensures) (say_4 c.requires.0 c.width_at-w.ensures.0 c.if-s-to.false (sym c.is_framed.ensures ∙ not-false c.is_framed.result c.if-not-is_framed.false-raw) (sym (value_is c.args.s.now c.args.k c.args.at c.width_at-w.result c.requires.0.at_is c.width_at-w.ensures.0 c.kind_at.result c.is_value.result c.kind_at.ensures c.if-s-to.false c.is_value.ensures) ∙ not-false c.is_value.result c.if-not-is_value.false-raw) c.later-h.ensures c.if-h-eq4.true)

pub returns-then-h-eq5 : goal.returns-then-h-eq5
returns-then-h-eq5 c = subst (TurnedIs c.args.s.now c.args.k) (sym c.refused-then-h-eq5.ensures) (say_5 c.requires.0 c.width_at-w.ensures.0 c.if-s-to.false (sym c.is_framed.ensures ∙ not-false c.is_framed.result c.if-not-is_framed.false-raw) (sym (value_is c.args.s.now c.args.k c.args.at c.width_at-w.result c.requires.0.at_is c.width_at-w.ensures.0 c.kind_at.result c.is_value.result c.kind_at.ensures c.if-s-to.false c.is_value.ensures) ∙ not-false c.is_value.result c.if-not-is_value.false-raw) c.later-h.ensures c.if-h-eq5.true)

pub returns : goal.returns
returns c = say_go c.requires.0 c.width_at-w.ensures.0 c.if-s-to.false (sym c.is_framed.ensures ∙ not-false c.is_framed.result c.if-not-is_framed.false-raw) (sym (value_is c.args.s.now c.args.k c.args.at c.width_at-w.result c.requires.0.at_is c.width_at-w.ensures.0 c.kind_at.result c.is_value.result c.kind_at.ensures c.if-s-to.false c.is_value.ensures) ∙ not-false c.is_value.result c.if-not-is_value.false-raw) c.later-h.ensures c.if-h-eq4.false c.if-h-eq5.false
