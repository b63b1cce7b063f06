-- The invariant of the loop, and its measure.
use Rattle.std.proofs.Common.{◌≡◌, ◌-◌, length}
use Rattle.judge.proofs.PendingLaws.{Walk}
use Rattle.judge.proofs.reach.tally.Given as goal

abbrev pub invariant-loop-q : goal.invariant-loop-q
invariant-loop-q l = (length l.parts ≡ length l.initial.parts) × Walk l.s l.end l.q

abbrev pub decreases-loop-q : goal.decreases-loop-q
decreases-loop-q l = l.end - l.q
