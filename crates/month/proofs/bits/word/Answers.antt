-- `month::bits::word` meets its contract: two bytes, and one more, and one more. Assumes nothing.
use native.Mathlib.Omega.{arith}
use Rattle.judge.proofs.WordLaws.{wider}
use Rattle.month.proofs.bits.word.Goals as goal

pub returns : goal.returns
returns c = (wider _ _ 3 (wider _ _ 2 c.pair.ensures.0 c.from.ensures) c.from-2.ensures, omega arith)
