-- `rewrite::lines::put_join_header` meets its contract: the first's header, and its lines set anew, one after the other. Assumes nothing.
use Rattle.rewrite.proofs.LineLaws.{size_for}
use Rattle.rewrite.proofs.SumLaws.{join_header_done}
use borrow.Author.Rules.{rules}
use Rattle.rewrite.proofs.lines.put_join_header.Goals as goal

pub set_number-requires : goal.set_number-requires
set_number-requires c = (search rules, rw c.whole.ensures (size_for c.args.size c.requires.small))

pub returns : goal.returns
returns c =
    join_header_done c.args.m.now c.args.n.now c.args.header.now c.copy.new.room c.set_sums.new.header c.set_end.new.header c.set_totals.new.header c.set_number.new.header
    c.args.totals.now c.args.size c.requires.headers.first_long c.requires.headers.first c.requires.long c.copy.ensures c.set_sums.ensures c.set_end.ensures c.set_totals.ensures
    (rw c.whole.ensures at c.set_number.ensures)
