-- `meter::general::fits_general` meets its contract: each way out by its tests (GeneralCode). Assumes nothing.
use borrow.Author.Tests.{not-true, not-false}
use mathlib.Core.Path.{sym, ◌∙◌}
use Rattle.meter.proofs.GeneralCode.{fits_no, fits_long, fits_short}
use Rattle.meter.proofs.general.fits_general.Goals as goal

pub returns-then-not-is_moment : goal.returns-then-not-is_moment
returns-then-not-is_moment c =
    fits_no c.args.long c.args.time c.in-Some.t c.in-Some.is (sym c.is_moment.ensures ∙ not-true c.is_moment.result c.if-not-is_moment.true-raw)

pub returns-then-long : goal.returns-then-long
returns-then-long c =
    fits_long c.args.long c.args.time c.in-Some.t c.in-Some.is (sym c.is_moment.ensures ∙ not-false c.is_moment.result c.if-not-is_moment.false-raw) c.if-long.true

pub returns-else-long : goal.returns-else-long
returns-else-long c =
    fits_short c.args.long c.args.time c.in-Some.t c.in-Some.is (sym c.is_moment.ensures ∙ not-false c.is_moment.result c.if-not-is_moment.false-raw) c.if-long.false
