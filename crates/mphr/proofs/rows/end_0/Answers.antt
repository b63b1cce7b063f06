-- `mphr::rows::end_0` meets its contract: each arm is an entry of the list, the last by what is left. Assumes nothing.
use Prim.Native.Nat.{ℕ}
use mathlib.Core.Path.{sym, ap}
use mathlib.Core.List.{[]}
use lib.ListN.{get_or}
use Rattle.mphr.specs.Rows.{end_words}
use Rattle.mphr.proofs.QuickLaws.{last_of}
use Rattle.mphr.proofs.rows.end_0.Goals as goal

pub returns-in_default : goal.returns-in_default
returns-in_default c = ap (λ (n : ℕ). get_or end_words n []) (sym (last_of 23 c.args.k c.requires c.in_default.in_default-own.rest))
