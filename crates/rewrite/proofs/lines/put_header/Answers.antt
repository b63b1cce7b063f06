-- `rewrite::lines::put_header` meets its contract: the header as it was, and its lines set anew, one after the other. Assumes nothing.
use Rattle.rewrite.proofs.LineLaws.{size_for, header_done}
use borrow.Author.Rules.{rules}
use Rattle.rewrite.proofs.lines.put_header.Goals as goal

pub set_number-requires : goal.set_number-requires
set_number-requires c = (search rules, rw c.whole.ensures (size_for c.args.size c.requires.small))

pub returns : goal.returns
returns c =
    header_done c.args.s.now c.args.header.now c.copy.new.room c.set_unknown.new.header c.set_times.new.header c.set_totals.new.header c.set_number.new.header
    c.args.start c.args.stop c.args.totals.now c.args.size c.requires.come c.requires.header c.requires.long c.copy.ensures c.set_unknown.ensures c.set_times.ensures c.set_totals.ensures
    (rw c.whole.ensures at c.set_number.ensures)
