-- `judge::header::is_sized` meets its contract: its tests are the parts of `Sized`. Assumes nothing.
use Rattle.std.proofs.Common.{sym, arith, eqb-true}
use borrow.Author.Tests.{eqb-false}
use Rattle.judge.proofs.RankLaws.{clash}
use Rattle.judge.proofs.header.is_sized.Goals as goal

pub returns-then-size-lt20 : goal.returns-then-size-lt20
returns-then-size-lt20 c = record { good = λ e. clash e; bad = λ _ s. omega (arith, s.least) }

pub returns-then-left-size : goal.returns-then-left-size
returns-then-left-size c = record { good = λ e. clash e; bad = λ _ s. omega (arith, s.most) }

pub returns-then-class-ne3 : goal.returns-then-class-ne3
returns-then-class-ne3 c = record { good = λ _. record { least = omega arith; most = omega arith; ipr = λ o. absurd (c.if-class-ne3.true o) }; bad = λ e. clash (sym e) }

pub returns : goal.returns
returns c = record {
  good = λ e. record { least = omega arith; most = omega arith; ipr = λ _. eqb-true c.args.size 27 e };
  bad = λ e s. eqb-false c.args.size 27 e (s.ipr c.if-class-ne3.false);
}
