-- `rewrite::sections::later_place` meets its contract. Assumes nothing.
use mathlib.Core.Path.{sym, ◌∙◌}
use Rattle.rewrite.proofs.SectionLaws.{later_same, later_here}
use Rattle.rewrite.proofs.sections.later_place.Goals as goal

pub returns-then-is_undefined : goal.returns-then-is_undefined
returns-then-is_undefined c = later_same c.args.s.now c.args.place c.args.at (sym c.is_undefined.ensures ∙ c.if-is_undefined.true)

pub returns-else-is_undefined : goal.returns-else-is_undefined
returns-else-is_undefined c = later_here c.args.s.now c.args.place c.args.at c.requires.0 (sym c.is_undefined.ensures ∙ c.if-is_undefined.false)
