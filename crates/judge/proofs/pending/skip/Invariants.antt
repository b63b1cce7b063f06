-- The invariant of the loop: those before j are passed.
use Rattle.judge.specs.Pending.{SkippedIs}
use Rattle.judge.proofs.pending.skip.Given as goal

abbrev pub invariant-loop-j : goal.invariant-loop-j
invariant-loop-j l = SkippedIs l.held l.next l.count l.named l.j
