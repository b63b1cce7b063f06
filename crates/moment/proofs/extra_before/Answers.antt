-- `moment::extra_before` meets its contract: a test for each of the days. Assumes nothing.
use native.Mathlib.Omega.{arith}
use Rattle.moment.proofs.MomentLaws.{extra_is}
use Rattle.moment.proofs.extra_before.Goals as goal

pub returns : goal.returns
returns c =
    let d = c.args.day in
    (omega (arith, extra_is d, c.extra-first.ensures, c.extra-second.ensures, c.extra-third.ensures, c.extra-fourth.ensures, c.extra.ensures), omega arith)
