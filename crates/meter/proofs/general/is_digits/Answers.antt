-- `meter::general::is_digits` meets its contract: the two tests are the definition's two. Assumes nothing.
use borrow.Author.Tests.{eq-eqb, ne_eqb}
use native.Mathlib.Omega.{arith}
use Prim.Native.Nat.{◌+◌}
use mathlib.Core.Path.{refl, sym}
use Rattle.meter.proofs.GeneralRuns.{run_part}
use Rattle.meter.specs.General.{is_digits}
use Rattle.meter.proofs.general.is_digits.Goals as goal

pub returns-then-run-n : goal.returns-then-run-n
unfolding is_digits
returns-then-run-n c = simp (sym (run_part 48 57 c.args.bytes.now c.args.at (c.args.at + c.args.n) c.args.n c.run.result refl (omega arith) c.run.ensures.0), ne_eqb _ _ c.if-run-n.true)

pub returns : goal.returns
unfolding is_digits
returns c = simp (sym (run_part 48 57 c.args.bytes.now c.args.at (c.args.at + c.args.n) c.args.n c.run.result refl (omega arith) c.run.ensures.0), eq-eqb _ _ c.if-run-n.false)
