-- `compare::cut::check_cut` meets its contract: the verdict of the original, then of the cut, and what comes next where both are accepted. Assumes nothing.
use mathlib.Core.Path.{◌≡◌}
use Rattle.std.specs.declared.result.Result.TheVariants.{Err}
use Rattle.std.proofs.Common.{rules}
use Rattle.demands.proofs.Accepted.{accepted_product}
use Rattle.compare.specs.Check.{original_unfit, cut_unfit}
use Rattle.compare.proofs.cut.check_cut.Goals as goal

pub returns-in_err-verdict : goal.returns-in_err-verdict
returns-in_err-verdict c =
    let e : c.from_residual.result ≡ Err c.in_err-verdict.field-0.0 = search rules in
    rw e (original_unfit _ c.in_err-verdict.ensures)

pub returns-in_err-verdict-2 : goal.returns-in_err-verdict-2
returns-in_err-verdict-2 c =
    let e : c.from_residual-in_err-verdict-2.result ≡ Err c.in_err-verdict-2.field-0.0 = search rules in
    rw e (cut_unfit _ (accepted_product c.in_ok-verdict.ensures) c.in_err-verdict-2.ensures)

pub check_products-requires : goal.check_products-requires
check_products-requires c = record { original = accepted_product c.in_ok-verdict.ensures; cut = accepted_product c.in_ok-verdict-2.ensures }
