-- The invariant of the loop, and its measure.
use Rattle.std.proofs.Common.{◌-◌}
use Rattle.judge.specs.Profile.{Passed}
use Rattle.judge.proofs.profile.pass_met.Given as goal

abbrev pub invariant-loop-at : goal.invariant-loop-at
invariant-loop-at l = Passed l.profile l.s l.size l.from l.at l.end

abbrev pub decreases-loop-at : goal.decreases-loop-at
decreases-loop-at l = l.end - l.at
