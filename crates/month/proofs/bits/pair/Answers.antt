-- `month::bits::pair` meets its contract: the bytes in turn. Assumes nothing.
use native.Mathlib.Omega.{arith}
use mathlib.Core.Path.{refl}
use Rattle.judge.proofs.WordLaws.{one_byte, wider}
use Rattle.month.proofs.bits.pair.Goals as goal

pub returns : goal.returns
returns c = (wider _ _ 1 (one_byte _ _ c.from.ensures) c.from-2.ensures, omega arith)
