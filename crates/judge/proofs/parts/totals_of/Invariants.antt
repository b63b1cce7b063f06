-- The invariant of the loop: the first j totals are in.
use Rattle.judge.proofs.CountLaws.{Placed}
use Rattle.judge.proofs.parts.totals_of.Given as goal

abbrev pub invariant-loop-j : goal.invariant-loop-j
invariant-loop-j l = Placed l.main l.total-items l.j
