-- The invariant of the loop.
use Rattle.rewrite.proofs.SumLaws.{Summing}
use Rattle.rewrite.proofs.lines.set_sums.Given as goal

abbrev pub invariant-loop-k : goal.invariant-loop-k
invariant-loop-k l = Summing l.m l.n l.initial.header l.header l.k
