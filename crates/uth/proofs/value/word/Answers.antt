-- `uth::value::word` meets its contract: byte by byte. Assumes nothing.
use mathlib.Core.Path.{◌≡◌, ap}
use Prim.Native.Nat.{ℕ, ◌+◌}
use native.Mathlib.Omega.{arith}
use lib.ListN.{get_or}
use Rattle.meter.specs.Integer.{be_at}
use Rattle.uth.proofs.value.word.Goals as goal

pub returns : goal.returns
unfolding be_at
returns c =
    let z : c.args.at + 0 ≡ c.args.at = omega arith in
    let e = ap (λ (k : ℕ). get_or c.args.bytes.now k 0) z in
    (omega arith, omega arith)
