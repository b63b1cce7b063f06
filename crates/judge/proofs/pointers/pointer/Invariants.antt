-- The invariant of the loop, and its measure.
use Rattle.std.proofs.Common.{◌-◌}
use Rattle.judge.specs.Step.{Scan}
use Rattle.judge.proofs.pointers.pointer.Given as goal

abbrev pub invariant-loop-q : goal.invariant-loop-q
invariant-loop-q l = Scan l.s l.end l.lo l.hi l.kind l.q

abbrev pub decreases-loop-q : goal.decreases-loop-q
decreases-loop-q l = l.end - l.q
