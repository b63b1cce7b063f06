-- `judge::header::is_six` meets its contract: its tests are the parts of `SixLeft`. Assumes nothing.
use Rattle.std.proofs.Common.{arith, ltb-false, ltb-true}
use Rattle.judge.proofs.RankLaws.{clash}
use Rattle.judge.proofs.header.is_six.Goals as goal

pub returns-then-size-ne20 : goal.returns-then-size-ne20
returns-then-size-ne20 c = record { good = λ e. clash e; bad = λ _ s. c.if-size-ne20.true s.short }

pub returns-then-class-eq3 : goal.returns-then-class-eq3
returns-then-class-eq3 c = record { good = λ e. clash e; bad = λ _ s. s.other c.if-class-eq3.true }

pub returns-then-left-le20 : goal.returns-then-left-le20
returns-then-left-le20 c = record { good = λ e. clash e; bad = λ _ s. omega (arith, s.more) }

pub returns : goal.returns
returns c = record {
  good = λ e. record { short = omega arith; other = c.if-class-eq3.false; more = omega arith; part = ltb-true c.args.left 40 e };
  bad = λ e s. omega (arith, s.part, ltb-false c.args.left 40 e);
}
