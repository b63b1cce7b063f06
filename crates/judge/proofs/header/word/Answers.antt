-- `judge::header::word` meets its contract: one byte more. Assumes nothing.
use Rattle.std.proofs.Common.{◌+◌, refl, arith}
use Rattle.judge.proofs.WordLaws.{wider}
use Rattle.judge.proofs.header.word.Goals as goal

pub returns : goal.returns
returns c = (wider _ _ 3 c.triple.ensures.0 refl, omega (arith, c.type_inv.s (c.args.at + 3)))
