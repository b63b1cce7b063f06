-- The invariant of the loop.
use Rattle.std.proofs.Common.{ℕ, ◌+◌, ◌≤◌, length}
use Rattle.record.specs.Follow.{Ruled}
use Rattle.judge.specs.Run.{Liking, Alike}
use Rattle.judge.proofs.run.run_of.Given as goal

-- up to the limit all has come, no pointer is due, and 20 bytes of d are left
pub record Before (len due d limit : ℕ) : Type 0 where
  pub come : limit ≤ len
  pub due-after : limit ≤ due
  pub left : limit + 20 ≤ d

abbrev pub invariant-loop-count : goal.invariant-loop-count
invariant-loop-count l =
    (l.end ≤ l.limit) × (l.size ≤ l.limit) × Before (length l.s) l.due l.d l.limit × Liking l.class l.size × (Ruled l.follow → Alike l.s l.class l.size l.due l.d l.most l.at l.count l.end)
