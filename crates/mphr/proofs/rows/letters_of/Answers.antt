-- `mphr::rows::letters_of` meets its contract: each arm is a number of the list, the last by what is left. Assumes nothing.
use Prim.Native.Nat.{ℕ}
use mathlib.Core.Path.{sym, ap}
use lib.ListN.{get_or}
use Rattle.mphr.specs.Rows.{letter_words}
use Rattle.mphr.proofs.QuickLaws.{last_arm}
use Rattle.mphr.proofs.rows.letters_of.Goals as goal

pub returns-in_default : goal.returns-in_default
returns-in_default c = ap (λ (n : ℕ). get_or letter_words n 0) (sym (last_arm 9 21 c.args.n c.requires.0 c.requires.1 c.in_default.in_default-own.rest))
