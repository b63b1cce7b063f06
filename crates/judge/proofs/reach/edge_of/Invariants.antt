-- The invariant of the loop, and its measure.
use Rattle.std.proofs.Common.{◌≤◌}
use Rattle.judge.proofs.reach.edge_of.Given as goal

abbrev pub invariant-loop-k : goal.invariant-loop-k
invariant-loop-k l = (l.lo ≤ l.edge) × (l.edge ≤ l.d) × (l.k ≤ 30)

abbrev pub decreases-loop-k : goal.decreases-loop-k
decreases-loop-k l = l.k
