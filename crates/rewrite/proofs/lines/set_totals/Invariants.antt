-- The invariant of the loop.
use Rattle.rewrite.proofs.LineLaws.{Adding}
use Rattle.rewrite.proofs.lines.set_totals.Given as goal

abbrev pub invariant-loop-j : goal.invariant-loop-j
invariant-loop-j l = Adding l.totals l.initial.header l.header l.j
