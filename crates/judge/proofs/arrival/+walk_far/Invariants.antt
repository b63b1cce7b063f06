-- The measure is how many calls are left.
use Rattle.judge.proofs.arrival.+walk_far.Given as goal

abbrev pub decreases-walk_far : goal.decreases-walk_far
decreases-walk_far l = l.millions
