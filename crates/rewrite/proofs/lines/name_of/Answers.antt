-- `rewrite::lines::name_of` meets its contract: the name, and two texts set in it. Assumes nothing.
use Rattle.rewrite.proofs.LineLaws.{name_is}
use borrow.Author.Rules.{rules}
use Rattle.rewrite.proofs.lines.name_of.Goals as goal

pub returns : goal.returns
returns c =
    name_is c.args.s.now c.args.first.now c.args.last.now _ _ _ c.requires (search rules) (search rules) c.copy.ensures c.copy-2.ensures c.copy-3.ensures
