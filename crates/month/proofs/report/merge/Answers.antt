-- `month::report::merge` meets its contract: the test of the limits, then the sum. Assumes nothing.
use Rattle.month.specs.Report.{merged, over}
use Rattle.month.proofs.JoinLaws.{merge_at}
use Rattle.month.proofs.report.merge.Goals as goal

pub returns-then-not-fits : goal.returns-then-not-fits
returns-then-not-fits c = over (c.fits.ensures.wrong c.if-not-fits.true)

pub returns : goal.returns
returns c = merge_at c.sum.ensures (merged (c.fits.ensures.right c.if-not-fits.false))
