-- `moment::time_between` meets its contract: where the two stand on the line, and how far each is from the greater. Assumes nothing.
use Rattle.moment.proofs.MomentLaws.{between_is}
use Rattle.moment.proofs.time_between.Goals as goal

pub returns : goal.returns
returns c =
    let a = c.args in
    between_is a.stop a.start c.on_line.ensures c.on_line-to.ensures c.undefined_of-none.ensures c.unless-from.ensures c.max-end.ensures
