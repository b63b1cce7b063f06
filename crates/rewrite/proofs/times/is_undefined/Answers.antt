-- `rewrite::times::is_undefined` meets its contract: the bits say it. Assumes nothing.
use Prim.Native.Nat.{ℕ}
use mathlib.Core.Path.{ap}
use lib.Dec.{eqb}
use Rattle.rewrite.proofs.times.is_undefined.Goals as goal

pub returns : goal.returns
returns c = ap (λ (v : ℕ). eqb v 281474976710655) c.bits_at.ensures.0
