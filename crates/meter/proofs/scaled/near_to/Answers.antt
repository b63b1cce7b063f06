-- `meter::scaled::near_to` meets its contract: the remainder against the rest. Assumes nothing.
use Rattle.meter.proofs.RoundingLaws.{near_down, near_up}
use native.Mathlib.Nat.{mod-lt, div-le_self}
use native.Mathlib.Omega.{arith}
use mathlib.Core.Path.{sym}
use Rattle.meter.proofs.scaled.near_to.Goals as goal

pub overflow_sub-p : goal.overflow_sub-p
overflow_sub-p c = omega (arith, mod-lt c.args.m c.requires.0)

pub overflow_add-result : goal.overflow_add-result
overflow_add-result c = omega (arith, div-le_self c.args.m c.args.p)

pub returns-then-r-p : goal.returns-then-r-p
returns-then-r-p c = sym (near_down c.args.m c.args.p c.requires.0 c.if-r-p.true)

pub returns-else-r-p : goal.returns-else-r-p
returns-else-r-p c = sym (near_up c.args.m c.args.p c.requires.0 c.if-r-p.false)
