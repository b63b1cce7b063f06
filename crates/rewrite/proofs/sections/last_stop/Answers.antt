-- `rewrite::sections::last_stop` meets its contract: the records from `from` on have the last stop of those from `at` on. Assumes nothing.
use native.Mathlib.Omega.{arith}
use mathlib.Core.Path.{◌∙◌}
use Rattle.rewrite.proofs.SectionLaws.{stop_first, stop_then, stop_none}
use Rattle.rewrite.proofs.sections.last_stop.Goals as goal

pub loop-at-init : goal.loop-at-init
loop-at-init c = let p = c.requires in stop_first p.0 0 p.1 (omega (arith, p.1, p.0.walk.within))

pub stop_alike-stopped-requires : goal.stop_alike-stopped-requires
stop_alike-stopped-requires c = (c.loop-at.invariant.after, c.loop-at-test.true)

pub loop-at-smaller : goal.loop-at-smaller
loop-at-smaller c = omega (arith, c.stop_alike-stopped.ensures.further, c.loop-at-test.true)

pub loop-at-preserved : goal.loop-at-preserved
loop-at-preserved c = stop_then c.loop-at.invariant c.stop_alike-stopped.ensures.on

pub stop_at-requires : goal.stop_at-requires
stop_at-requires c = c.loop-at.invariant.after.come

pub returns : goal.returns
returns c = λ rs w. c.stop_at.ensures ∙ stop_none c.loop-at.invariant c.loop-at-test.false rs w
