-- The invariant of the loop.
use Rattle.query.proofs.QueryLaws.{Walking}
use Rattle.query.proofs.start_of.Given as goal

abbrev pub invariant-loop-n : goal.invariant-loop-n
invariant-loop-n l = Walking l.s l.k l._n l.at
