-- `month::report::add_product` meets its contract: what the product adds is merged. Assumes nothing.
use mathlib.Core.Path.{◌≡◌}
use Rattle.std.specs.declared.result.Result.TheVariants.{Err}
use Rattle.std.proofs.Common.{rules}
use Rattle.std.proofs.lemmas.Result.{err_from_is_err_and}
use Rattle.month.proofs.JoinLaws.{join_done, join_over}
use Rattle.month.proofs.report.add_product.Goals as goal

pub returns-in_err-merge : goal.returns-in_err-merge
returns-in_err-merge c =
    let q = err_from_is_err_and c.from_residual.result c.from_residual.ensures.1 in
    let e : c.merge.result ≡ Err q.0 = search rules in
    record { said = _; share = _; contributes = c.count_records.ensures; joins = join_over _ e q.1 c.merge.ensures }

pub returns : goal.returns
returns c = record { said = _; share = _; contributes = c.count_records.ensures; joins = join_done _ c.in_ok-merge.was c.merge.ensures }
