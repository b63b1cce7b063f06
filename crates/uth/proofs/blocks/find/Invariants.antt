-- The invariant of the loop, and its measure.
use mathlib.Core.Path.{◌≡◌}
use Prim.Native.Nat.{ℕ, ◌<◌}
use Rattle.calendar.specs.Said.{answer}
use Rattle.uth.specs.Judge.{judge_of}
use Rattle.uth.proofs.FindLaws.{Seeking}
use Rattle.uth.proofs.blocks.find.Given as goal

abbrev pub invariant-loop-left : goal.invariant-loop-left
invariant-loop-left l = (n : ℕ) → judge_of l.bytes ≡ answer n → l.k < n → Seeking l.bytes n l.k l.p l.left

abbrev pub decreases-loop-left : goal.decreases-loop-left
decreases-loop-left l = l.left
