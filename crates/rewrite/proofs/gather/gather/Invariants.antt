-- The invariant of the loop, and its measure.
use Prim.Native.Nat.{◌-◌}
use Rattle.rewrite.specs.Gathering.{Going}
use Rattle.rewrite.proofs.gather.gather.Given as goal

abbrev pub invariant-loop-at : goal.invariant-loop-at
invariant-loop-at l = Going l.s l.from l.to l.n l.initial.table l.initial.tally l.records l.at l.table l.tally

abbrev pub decreases-loop-at : goal.decreases-loop-at
decreases-loop-at l = l.to - l.at
