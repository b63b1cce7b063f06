-- `query::number_field` meets its contract: a number's field of a main header that passed is one that is read. Assumes nothing.
use Rattle.query.proofs.QueryLaws.{number_told}
use Rattle.query.proofs.number_field.Goals as goal

pub returns : goal.returns
returns c = let p = rw c.in_ok-part.was at c.field_at.ensures in number_told _ p c.read_number.ensures
