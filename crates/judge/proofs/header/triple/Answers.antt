-- `judge::header::triple` meets its contract: one byte more. Assumes nothing.
use Rattle.std.proofs.Common.{◌+◌, refl, arith}
use Rattle.judge.proofs.WordLaws.{wider}
use Rattle.judge.proofs.header.triple.Goals as goal

pub returns : goal.returns
returns c = (wider _ _ 2 c.pair.ensures.0 refl, omega (arith, c.type_inv.s (c.args.at + 2)))
