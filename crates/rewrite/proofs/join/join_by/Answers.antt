-- `rewrite::join::join_by` meets its contract: the verdict of the first, then of the second, and what comes next where both are accepted. Assumes nothing.
use mathlib.Core.Path.{◌≡◌}
use Rattle.std.specs.Prelude.{Err}
use Rattle.std.proofs.Common.{rules}
use Rattle.demands.proofs.Accepted.{accepted_product}
use Rattle.rewrite.specs.Join.{first_unfit, second_unfit}
use Rattle.rewrite.proofs.join.join_by.Goals as goal

pub returns-in_err-verdict : goal.returns-in_err-verdict
returns-in_err-verdict c =
    let e : c.from_residual.result ≡ Err c.in_err-verdict.field-0.0 = search rules in
    rw e (first_unfit _ c.in_err-verdict.ensures)

pub returns-in_err-verdict-2 : goal.returns-in_err-verdict-2
returns-in_err-verdict-2 c =
    let e : c.from_residual-in_err-verdict-2.result ≡ Err c.in_err-verdict-2.field-0.0 = search rules in
    rw e (second_unfit _ (accepted_product c.in_ok-verdict.ensures) c.in_err-verdict-2.ensures)

pub join_products-requires : goal.join_products-requires
join_products-requires c = record { first = accepted_product c.in_ok-verdict.ensures; second = accepted_product c.in_ok-verdict-2.ensures }
