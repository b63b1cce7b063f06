-- `month::report::tally` meets its contract: one to the products, one to the refusal's tally. Assumes nothing.
use mathlib.Core.Path.{◌≡◌}
use Rattle.std.specs.declared.result.Result.TheVariants.{Err}
use Rattle.std.proofs.Common.{rules}
use Rattle.std.proofs.lemmas.Result.{err_from_is_err_and}
use Rattle.month.proofs.JoinLaws.{join_done, join_over, tally_at}
use Rattle.month.proofs.report.tally.Goals as goal

pub returns-in_err-merge : goal.returns-in_err-merge
returns-in_err-merge c =
    let q = err_from_is_err_and c.from_residual.result c.from_residual.ensures.1 in
    let e : c.merge.result ≡ Err q.0 = search rules in
    tally_at _ _ c.from.ensures (join_over _ e q.1 c.merge.ensures)

pub returns : goal.returns
returns c = tally_at _ _ c.from.ensures (join_done _ c.in_ok-merge.was c.merge.ensures)
