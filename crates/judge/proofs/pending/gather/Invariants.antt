-- The invariant of the loop, and its measure.
use Rattle.std.proofs.Common.{◌≡◌, ◌-◌, ◌≤◌, length}
use Rattle.judge.proofs.PendingLaws.{Got, Walk}
use Rattle.judge.proofs.pending.gather.Given as goal

abbrev pub invariant-loop-q : goal.invariant-loop-q
invariant-loop-q l =
    (l.n ≤ length l.held) × (length l.held ≡ length l.initial.held) × Walk l.s l.end l.q × Got l.s l.held l.n l.end l.lo l.hi l.named l.q

abbrev pub decreases-loop-q : goal.decreases-loop-q
decreases-loop-q l = l.end - l.q
