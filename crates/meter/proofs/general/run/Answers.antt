-- `meter::general::run` meets its contract: the first byte that is not lo to hi is the run's end. Assumes nothing.
use borrow.Author.Rules.{rules}
use mathlib.Core.Logic.{◌⊎◌}
use Prim.Native.Nat.{ℕ, ◌<◌}
use lib.ListN.{length}
use Rattle.std.specs.List.{AllWithin, HoldsAt}
use Rattle.std.specs.Option.{MatchOption}
use Rattle.meter.proofs.GeneralRuns.{In, run_found}
use Rattle.meter.proofs.general.run.Goals as goal

pub returns : goal.returns
returns c =
    let a = c.args in
    let xs = a.bytes.now in
    let p : MatchOption c.position.result (AllWithin (In a.lo a.hi) xs 0 (length xs)) (λ i. (i < length xs) × HoldsAt (λ (b : ℕ). (b < a.lo) ⊎ (a.hi < b)) xs i × AllWithin (In a.lo a.hi) xs 0 i) = search rules in
    rw c.unwrap_or.ensures (run_found a.lo a.hi xs c.position.result p)
