-- `meter::general::is_none` meets its contract: the tests are the definition's. Assumes nothing.
use borrow.Author.Tests.{eq-eqb, ne_eqb}
use native.Mathlib.Omega.{arith}
use Prim.Native.Nat.{◌+◌}
use mathlib.Core.Path.{refl, sym}
use Rattle.meter.proofs.GeneralRuns.{run_part}
use Rattle.meter.specs.General.{is_none}
use Rattle.meter.proofs.general.is_none.Goals as goal

pub returns-then-run-n : goal.returns-then-run-n
unfolding is_none
returns-then-run-n c = simp (sym (run_part 120 120 c.args.bytes.now c.args.at (c.args.at + c.args.n) c.args.n c.run.result refl (omega arith) c.run.ensures.0), ne_eqb _ _ c.if-run-n.true)

pub returns-then-bytes-at-eq120 : goal.returns-then-bytes-at-eq120
unfolding is_none
returns-then-bytes-at-eq120 c = simp (sym (run_part 120 120 c.args.bytes.now c.args.at (c.args.at + c.args.n) c.args.n c.run.result refl (omega arith) c.run.ensures.0), eq-eqb _ _ c.if-run-n.false, eq-eqb _ _ c.if-bytes-at-eq120.true)

pub returns : goal.returns
unfolding is_none
returns c = simp (sym (run_part 120 120 c.args.bytes.now c.args.at (c.args.at + c.args.n) c.args.n c.run.result refl (omega arith) c.run.ensures.0), eq-eqb _ _ c.if-run-n.false, ne_eqb _ _ c.if-bytes-at-eq120.false)
