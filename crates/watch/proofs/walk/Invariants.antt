-- The invariant of the loop, and its measure.
use Prim.Native.Nat.{ℕ, ◌-◌}
use mathlib.Core.List.{List}
use Rattle.record.specs.Follow.{Ruled}
use Rattle.watch.specs.Stands.{laid}
use Rattle.watch.specs.Turning.{SaneMark, Walking}
use Rattle.watch.proofs.walk.Given as goal

abbrev pub invariant-loop-v : goal.invariant-loop-v
invariant-loop-v l = SaneMark l.v l.tally × ((h b : List ℕ) → Walking b l.part l.base (laid l.initial.v l.totals l.initial.tally l.initial.starts l.initial.targets l.initial.kinds h l.initial.under) → Walking b l.part l.base (laid l.v l.totals l.tally l.starts l.targets l.kinds h l.under)) × Ruled l.follow

abbrev pub decreases-loop-v : goal.decreases-loop-v
decreases-loop-v l = l.v.d - l.v.at
