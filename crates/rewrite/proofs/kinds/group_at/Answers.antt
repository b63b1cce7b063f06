-- `rewrite::kinds::group_at` meets its contract: by the arms that led to each group. Assumes nothing.
use native.Mathlib.Omega.{arith}
use Prim.Native.Nat.{◌%◌}
use mathlib.Core.Path.{◌≡◌, sym, ◌∙◌}
use Rattle.rewrite.proofs.EmitLaws.{group_low, group_15, group_99}
use Rattle.rewrite.proofs.kinds.group_at.Goals as goal

pub returns-in-0-to-13 : goal.returns-in-0-to-13
returns-in-0-to-13 c = let a = c.args in c.byte.ensures ∙ (let e : a.x % 256 ≡ a.x = omega arith in e) ∙ sym (group_low a.x (omega arith))

pub returns-in-14 : goal.returns-in-14
returns-in-14 c = sym (group_15 c.args.x (omega arith))

pub returns-in_default : goal.returns-in_default
returns-in_default c = sym (group_99 c.args.x (omega arith) (λ e. omega arith))
