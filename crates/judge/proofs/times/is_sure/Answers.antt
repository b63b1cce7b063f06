-- `judge::times::is_sure` meets its contract: the ways that the next millisecond can be. Assumes nothing.
use Rattle.std.proofs.Common.{inl, inr, ⊎_elim, eqb-true, leb-true}
use borrow.Author.Tests.{eqb-false, not-true}
use Rattle.judge.proofs.RankLaws.{and_true}
use Rattle.judge.proofs.TimesLaws.{or_true, sure}
use Rattle.judge.proofs.times.is_sure.Goals as goal

pub returns : goal.returns
returns c = λ e.
    let t = and_true _ _ e in
    sure c.args.day c.args.milli c.wrapping_add_u32-next.result c.wrapping_add_u32-next.ensures.value c.requires
    (leb-true _ _ t.0)
    (⊎_elim (λ n. inl (eqb-false _ _ (not-true _ n))) (λ d. inr (eqb-true _ _ d)) (or_true _ _ t.1))
