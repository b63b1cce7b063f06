-- `judge::header::pair` meets its contract: the bytes in turn. Assumes nothing.
use Rattle.std.proofs.Common.{◌+◌, refl, arith}
use Rattle.judge.proofs.WordLaws.{one_byte, wider}
use Rattle.judge.proofs.header.pair.Goals as goal

pub returns : goal.returns
returns c = let a = c.args in (wider _ _ 1 (one_byte _ _ refl) refl, omega (arith, c.type_inv.s a.at, c.type_inv.s (a.at + 1)))
