-- `month::bits::bits_at` meets its contract: six bytes are two and four. Assumes nothing.
use native.Mathlib.Omega.{arith}
use mathlib.Core.Path.{refl}
use Rattle.judge.proofs.TimesLaws.{six}
use Rattle.month.proofs.bits.bits_at.Goals as goal

pub returns : goal.returns
returns c = (six _ _ _ refl c.pair.ensures.0 c.word.ensures.0, omega arith)
