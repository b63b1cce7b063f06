-- `judge::run::is_run` meets its contract: each test that it passed. Assumes nothing.
use Rattle.std.proofs.Common.{sym, ◌∙◌}
use Rattle.judge.proofs.RankLaws.{clash}
use Rattle.judge.proofs.run.is_run.Goals as goal

pub returns-then-class-eq3 : goal.returns-then-class-eq3
returns-then-class-eq3 c = λ e. clash e

pub returns-then-size-lt20 : goal.returns-then-size-lt20
returns-then-size-lt20 c = λ e. clash e

pub returns-then-d-lt20 : goal.returns-then-d-lt20
returns-then-d-lt20 c = λ e. clash e

pub returns : goal.returns
returns c = λ e. (record { known = sym c.is_class.ensures ∙ e; other = c.if-class-eq3.false; least = c.if-size-lt20.false }, c.if-d-lt20.false)
