-- The invariant of the loop.
use mathlib.Core.Path.{◌≡◌}
use Prim.Native.Nat.{◌-◌, ◌≤◌}
use lib.ListN.{length}
use Rattle.uth.specs.Judge.{judge_from}
use Rattle.uth.proofs.judge.judge_segments.Given as goal

abbrev pub invariant-loop : goal.invariant-loop
invariant-loop l = (judge_from l.bytes l.m 642 0 ≡ judge_from l.bytes (l.m - l.counter) l.p l.count) × (l.p ≤ length l.bytes) × (l.count ≤ l.p)
