-- `judge::times::in_line` meets its contract: one of its two tests. Assumes nothing.
use Rattle.std.proofs.Common.{inl, inr, ⊎_elim, eqb-true, leb-true}
use Rattle.judge.proofs.TimesLaws.{or_true}
use Rattle.judge.proofs.times.in_line.Goals as goal

pub returns : goal.returns
returns c = λ e. ⊎_elim (λ l. inl (leb-true _ _ l)) (λ u. inr (eqb-true _ _ u)) (or_true _ _ e)
