-- The invariant of the loop: each class from 1 up to c has its records.
use Rattle.std.proofs.Common.{ℕ, ◌<◌, ◌≤◌, get_or}
use Rattle.judge.proofs.parts.is_fewer.Given as goal

abbrev pub invariant-loop-c : goal.invariant-loop-c
invariant-loop-c l = (k : ℕ) → 1 ≤ k → k < l.c → get_or l.totals k 0 ≤ get_or l.tally k 0
