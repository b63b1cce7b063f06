-- `judge::parts::header_rank` meets its contract: a class is before the header, so that it has a rank. Assumes nothing.
use Rattle.std.proofs.Common.{sym, refl, ◌∙◌, rules}
use borrow.Author.Tests.{not-true, not-false}
use Rattle.judge.proofs.RankLaws.{clash}
use Rattle.judge.proofs.parts.header_rank.Goals as goal

pub returns-then-not-is_class : goal.returns-then-not-is_class
returns-then-not-is_class c = (λ k ruled. clash (sym (sym c.is_class.ensures ∙ not-true c.is_class.result c.if-not-is_class.true-raw) ∙ k), λ _. refl)

pub rank_in-requires : goal.rank_in-requires
rank_in-requires c =
    record { come = search rules; known = sym c.is_class.ensures ∙ not-false c.is_class.result c.if-not-is_class.false-raw; nine = search rules; nine' = search rules }

pub returns : goal.returns
returns c =
    (λ _. c.rank_in.ensures, λ z. clash (sym z ∙ sym c.is_class.ensures ∙ not-false c.is_class.result c.if-not-is_class.false-raw))
