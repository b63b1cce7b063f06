-- `meter::general::is_moment` meets its contract: the tests are the definition's. Assumes nothing.
use borrow.Author.Tests.{lt-leb, le-leb, not-true, not-false}
use Rattle.meter.proofs.GeneralCode.{moment_last}
use mathlib.Core.Path.{sym, ◌∙◌}
use Rattle.meter.specs.General.{is_moment}
use Rattle.meter.proofs.general.is_moment.Goals as goal

pub returns-then-not-is_date : goal.returns-then-not-is_date
unfolding is_moment
returns-then-not-is_date c = simp (sym c.is_date.ensures ∙ not-true c.is_date.result c.if-not-is_date.true-raw)

pub returns-then-t-gt23 : goal.returns-then-t-gt23
unfolding is_moment
returns-then-t-gt23 c = simp (sym c.is_date.ensures ∙ not-false c.is_date.result c.if-not-is_date.false-raw, lt-leb _ _ c.if-t-gt23.true)

pub returns-then-t-gt59 : goal.returns-then-t-gt59
unfolding is_moment
returns-then-t-gt59 c = simp (sym c.is_date.ensures ∙ not-false c.is_date.result c.if-not-is_date.false-raw, le-leb _ _ c.if-t-gt23.false, lt-leb _ _ c.if-t-gt59.true)

pub returns-then-t-last_second : goal.returns-then-t-last_second
unfolding is_moment
returns-then-t-last_second c = simp (sym c.is_date.ensures ∙ not-false c.is_date.result c.if-not-is_date.false-raw, le-leb _ _ c.if-t-gt23.false, le-leb _ _ c.if-t-gt59.false, sym c.last_second.ensures, lt-leb _ _ c.if-t-last_second.true)

pub returns : goal.returns
returns c =
    moment_last c.args.t c.last_second.result (sym c.is_date.ensures ∙ not-false c.is_date.result c.if-not-is_date.false-raw) c.if-t-gt23.false c.if-t-gt59.false c.last_second.ensures c.if-t-last_second.false
