-- The invariant of the loop.
use Rattle.month.proofs.PlusLaws.{Summed}
use Rattle.month.proofs.report.sum.Given as goal

abbrev pub invariant-loop-i : goal.invariant-loop-i
invariant-loop-i l = Summed l.fn.report l.fn.other l.sums l.i
