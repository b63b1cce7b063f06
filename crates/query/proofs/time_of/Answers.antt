-- `query::time_of` meets its contract: a time's field of a main header that passed is one that is read. Assumes nothing.
use Rattle.query.proofs.QueryLaws.{time_told}
use Rattle.query.proofs.time_of.Goals as goal

pub returns : goal.returns
returns c = let p = rw (c.times_of.ensures, c.in_ok-part.was) at c.field_at.ensures in time_told c.args.long _ p c.read_general.ensures
