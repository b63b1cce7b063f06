-- `finish::rows` meets its contract: by no line of a profile nothing is against it. Assumes nothing.
use Rattle.finish.proofs.ProfileLaws.{by_none}
use Rattle.finish.proofs.rows.Goals as goal

pub returns : goal.returns
returns c = by_none c.args.s.now _ c.rows_by.result _ c.rows_by.ensures
