-- `mphr::rows::fields_at` meets its contract: each arm is a number of the list, the last by what is left. Assumes nothing.
use Prim.Native.Nat.{ℕ}
use mathlib.Core.Path.{sym, ap}
use lib.ListN.{get_or}
use Rattle.mphr.specs.Rows.{field_words}
use Rattle.mphr.proofs.QuickLaws.{last_of}
use Rattle.mphr.proofs.rows.fields_at.Goals as goal

pub returns-in_default : goal.returns-in_default
returns-in_default c = ap (λ (n : ℕ). get_or field_words n 0) (sym (last_of 31 c.args.q c.requires c.in_default.in_default-own.rest))
