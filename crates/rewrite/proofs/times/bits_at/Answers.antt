-- `rewrite::times::bits_at` meets its contract: the bytes in turn. Assumes nothing.
use native.Mathlib.Omega.{arith}
use Rattle.rewrite.proofs.TimesLaws.{of_six}
use Rattle.rewrite.proofs.times.bits_at.Goals as goal

pub returns : goal.returns
returns c =
    let m = c.long-2.ensures in
    let g = c.long.ensures in
    let z = of_six c.args.s.now _ _ _ _ _ _ _ c.wide.ensures.0 c.wide-2.ensures.0 c.wide-3.ensures.0 c.wide-4.ensures.0 c.wide-5.ensures.0 c.wide-6.ensures.0 in
    (omega (arith, z, g.0, m.0), omega (arith, g.0, m, c.wide.ensures, c.wide-2.ensures))
