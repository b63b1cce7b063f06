-- `replay::numbers::number_at` meets its contract: byte by byte. Assumes nothing.
use mathlib.Core.Path.{◌≡◌, ap}
use Prim.Native.Nat.{ℕ, ◌+◌, ◌*◌}
use native.Mathlib.Omega.{arith}
use lib.ListN.{get_or}
use Rattle.meter.specs.Integer.{be_at}
use Rattle.replay.proofs.numbers.number_at.Goals as goal

pub returns : goal.returns
unfolding be_at
returns c =
    let z : 4 * c.args.j + 0 ≡ 4 * c.args.j = omega arith in
    let e = ap (λ (k : ℕ). get_or c.args.recorded.now k 0) z in
    (omega arith, omega arith)
