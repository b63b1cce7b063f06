-- `rewrite::lines::set_end` meets its contract: the second's end time, and the first's name with the second's end. Assumes nothing.
use native.Mathlib.Omega.{arith}
use mathlib.Core.Path.{sym, ◌∙◌}
use Rattle.parts.proofs.CutHeaderLaws.{name_width}
use Rattle.rewrite.proofs.LineLaws.{width_11}
use Rattle.rewrite.proofs.SumLaws.{end_is, ended_is, end_adds}
use borrow.Author.Rules.{rules}
use Rattle.rewrite.proofs.lines.set_end.Goals as goal

pub set_value-requires : goal.set_value-requires
set_value-requires c = (omega arith, search rules, ◌∙◌ {b = 15} (search rules) (sym width_11))

pub set_value-requires-2 : goal.set_value-requires-2
set_value-requires-2 c = (omega arith, search rules, ◌∙◌ {b = 67} (search rules) (sym name_width))

pub returns : goal.returns
returns c =
    let h = c.requires.1 in
    end_adds c.args.header.now c.set_value.new.header c.set_value-2.new.header c.args.m.now c.args.n.now _ _ h.first_long h.second_long
    (end_is c.args.n.now _ c.copy.ensures h.second_long) (ended_is c.args.m.now c.args.n.now _ _ h.first_long h.second_long c.copy-2.ensures c.copy-3.ensures) (search rules) c.set_value.ensures c.set_value-2.ensures
