-- `rewrite::lines::set_times` meets its contract: three values, one after the other. Assumes nothing.
use native.Mathlib.Omega.{arith}
use mathlib.Core.Path.{◌≡◌, sym, ap, ◌∙◌}
use lib.ListN.{length}
use Rattle.parts.specs.Rewritten.{value_of}
use Rattle.parts.proofs.CutHeaderLaws.{name_width}
use Rattle.rewrite.proofs.LineLaws.{stamp_long, width_10, width_11, name_long, timed_long, times_add}
use borrow.Author.Rules.{rules}
use Rattle.rewrite.proofs.lines.set_times.Goals as goal
use Rattle.rewrite.proofs.lines.set_times.Goals.{After-name_of-name}

start-long : (c : After-name_of-name) → length c.stamp_of-first.result ≡ 15
start-long c = ap length c.stamp_of-first.ensures ∙ stamp_long c.args.start

stop-long : (c : After-name_of-name) → length c.stamp_of-last.result ≡ 15
stop-long c = ap length c.stamp_of-last.ensures ∙ stamp_long c.args.stop

named : (c : After-name_of-name) → length c.name_of-name.result ≡ 67
named c = ap length c.name_of-name.ensures ∙ timed_long (value_of c.args.s.now 0) c.stamp_of-first.result c.stamp_of-last.result (name_long c.args.s.now c.requires.1) (start-long c) (stop-long c)

pub set_value-requires : goal.set_value-requires
set_value-requires c = (omega arith, search rules, stop-long (goal.at.set_value-requires c).After-name_of-name ∙ sym width_11)

pub set_value-requires-2 : goal.set_value-requires-2
set_value-requires-2 c = (omega arith, search rules, start-long (goal.at.set_value-requires-2 c).After-name_of-name ∙ sym width_10)

pub set_value-requires-3 : goal.set_value-requires-3
set_value-requires-3 c = (omega arith, search rules, named (goal.at.set_value-requires-3 c).After-name_of-name ∙ sym name_width)

pub returns : goal.returns
returns c =
    times_add c.args.header.now c.set_value.new.header c.set_value-2.new.header c.set_value-3.new.header (value_of c.args.s.now 0) _ _ _ c.args.start c.args.stop
    c.stamp_of-first.ensures c.stamp_of-last.ensures c.name_of-name.ensures (name_long c.args.s.now c.requires.1) c.set_value.ensures c.set_value-2.ensures c.set_value-3.ensures
