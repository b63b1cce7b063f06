-- `rewrite::copy::is_one_untimed` meets its contract: the first 8 bytes, then those after the times. Assumes nothing.
use native.Mathlib.Omega.{arith}
use Rattle.bytewise.proofs.CompareLaws.{same_parts}
use Rattle.rewrite.proofs.UntimedLaws.{one_no}
use Rattle.rewrite.proofs.copy.is_one_untimed.Goals as goal

pub returns-else-is_same : goal.returns-else-is_same
returns-else-is_same c =
    let u = c.requires in
    rw c.if-is_same.false (one_no u (same_parts (omega (arith, u.least, u.first)) (omega (arith, u.least, u.second)) c.is_same.ensures) c.if-is_same.false)
