-- The invariant of the loop, and its measure.
use Rattle.std.proofs.Common.{◌≡◌, ◌-◌, ◌≤◌, length}
use Rattle.record.specs.Follow.{Ruled}
use Rattle.judge.specs.Table.{site}
use Rattle.judge.specs.Step.{Kept}
use Rattle.judge.specs.Turning.{Turn}
use Rattle.judge.specs.Pending.{HoldIs}
use Rattle.judge.specs.Stretch.{NotesAre}
use Rattle.judge.specs.Profile.{Meeting}
use Rattle.judge.proofs.arrival.walk_on.Given as goal

abbrev pub invariant-loop-at : goal.invariant-loop-at
invariant-loop-at l =
    Turn l.s (site l.count l.at l.prev l.tally) × Kept l.s l.at l.w × Ruled l.follow × HoldIs l.s l.at l.held l.hold × (length l.held ≡ length l.initial.held) × NotesAre l.s l.notes × (l.notes.last.count ≤ l.at) × Meeting l.profile l.s 3307 l.met

abbrev pub decreases-loop-at : goal.decreases-loop-at
decreases-loop-at l = l.d - l.at
