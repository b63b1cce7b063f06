-- `month::report::add` meets its contract: the verdict of the product, and what comes next. Assumes nothing.
use Rattle.demands.proofs.Accepted.{accepted_product, verdict_at}
use Rattle.month.specs.Report.{unfit}
use Rattle.month.proofs.report.add.Goals as goal

pub add_product-requires : goal.add_product-requires
add_product-requires c = accepted_product (verdict_at _ c.in-Ok.is c.verdict.ensures)

pub returns-in-Err : goal.returns-in-Err
returns-in-Err c =
    record { said = _; share = _; contributes = unfit _ (verdict_at _ c.in-Err.is c.verdict.ensures); joins = c.tally.ensures }
