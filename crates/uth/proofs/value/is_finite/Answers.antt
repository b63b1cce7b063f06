-- `uth::value::is_finite` meets its contract: one test of the number without its sign. Assumes nothing.
use Rattle.uth.proofs.ValueLaws.{finite_is}
use Rattle.uth.proofs.value.is_finite.Goals as goal

pub returns : goal.returns
returns c = finite_is c.args.bits
