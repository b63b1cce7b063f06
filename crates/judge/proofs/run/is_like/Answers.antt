-- `judge::run::is_like` meets its contract: each test that it passed. Assumes nothing.
use borrow.Author.Tests.{not-false}
use Rattle.std.proofs.Common.{sym, ap, ◌∙◌}
use Rattle.record.specs.Header.{is_class}
use Rattle.judge.proofs.RankLaws.{clash, and_true}
use Rattle.judge.proofs.run.is_like.Goals as goal

pub returns-then-word-size : goal.returns-then-word-size
returns-then-word-size c = λ e. clash e

pub returns-then-s-at : goal.returns-then-s-at
returns-then-s-at c = λ e. clash e

pub may_follow-requires : goal.may_follow-requires
may_follow-requires c =
    (c.requires.0.known, ap is_class c.if-s-at.false ∙ c.requires.0.known)

pub returns-then-not-may_follow : goal.returns-then-not-may_follow
returns-then-not-may_follow c = λ e. clash e

pub returns : goal.returns
returns c = λ e ruled.
    let b = and_true c.is_group.result c.surely_stand.result e in
    record {
      liking = c.requires.0;
      come = c.requires.1;
      size_is = sym c.if-word-size.false ∙ c.word.ensures.0;
      class_is = c.if-s-at.false;
      follows = sym (c.may_follow.ensures ruled) ∙ not-false c.may_follow.result c.if-not-may_follow.false-raw;
      group = sym c.is_group.ensures ∙ b.0;
      timed = sym (c.surely_stand.ensures b.1);
    }
