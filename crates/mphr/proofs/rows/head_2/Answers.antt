-- `mphr::rows::head_2` meets its contract: each arm is an entry of the list, the last by what is left. Assumes nothing.
use Prim.Native.Nat.{ℕ}
use mathlib.Core.Path.{sym, ap}
use mathlib.Core.List.{[]}
use lib.ListN.{get_or}
use Rattle.mphr.specs.Rows.{head_words}
use Rattle.mphr.proofs.QuickLaws.{last_arm}
use Rattle.mphr.proofs.rows.head_2.Goals as goal

pub returns-in_default : goal.returns-in_default
returns-in_default c = ap (λ (n : ℕ). get_or head_words n []) (sym (last_arm 48 23 c.args.k c.requires.0 c.requires.1 c.in_default.in_default-own.rest))
