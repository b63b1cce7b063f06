-- `meter::general::put_none` meets its contract: n times x, and Z. Assumes nothing.
use Rattle.std.proofs.Common.{◌≡◌, ℕ, List, ◌++◌, drop, set, ap, ◌∙◌, arith, rules}
use lib.ListN.{replicate}
use Rattle.meter.proofs.GeneralWrite.{x_filled}
use Rattle.meter.proofs.general.put_none.Goals as goal

pub returns : goal.returns
returns c =
    let a = c.args in
    let f : c.fill.new.self ≡ replicate a.n 120 = search rules in
    ap (λ (b : List ℕ). set b a.n 90) (ap (λ (b : List ℕ). b ++ drop a.n a.room.now) f ∙ x_filled a.room.now a.n (omega arith))
