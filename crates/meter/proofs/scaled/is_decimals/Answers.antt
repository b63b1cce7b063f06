-- `meter::scaled::is_decimals` meets its contract: the two tests. Assumes nothing.
use Rattle.meter.proofs.ScaledLaws.{decimals_below, decimals_left}
use mathlib.Core.Path.{sym}
use Rattle.meter.proofs.scaled.is_decimals.Goals as goal

pub returns-then-decimals-lt0 : goal.returns-then-decimals-lt0
returns-then-decimals-lt0 c = sym (decimals_below c.args.decimals c.ranges.decimals c.if-decimals-lt0.true)

pub returns : goal.returns
returns c = decimals_left c.args.decimals c.ranges.decimals c.if-decimals-lt0.false
