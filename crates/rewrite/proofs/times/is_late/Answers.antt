-- `rewrite::times::is_late` meets its contract: by which join it is. Assumes nothing.
use Rattle.rewrite.proofs.TimesLaws.{late_identical, late_granules}
use Rattle.rewrite.proofs.times.is_late.Goals as goal

pub returns-then-identical : goal.returns-then-identical
returns-then-identical c = let a = c.args in late_identical a.identical a.stop a.start c.if-identical.true c.is_after.ensures

pub returns : goal.returns
returns c = let a = c.args in late_granules a.identical a.stop a.start c.if-identical.false c.overlap.ensures
