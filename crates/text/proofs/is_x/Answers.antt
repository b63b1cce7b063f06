-- `text::is_x` meets its contract: the tests are the definition's. Assumes nothing.
use native.Mathlib.Omega.{arith}
use Prim.Native.Nat.{◌+◌}
use Rattle.meter.proofs.GeneralRuns.{run_part}
use Rattle.text.proofs.Laws.{x_empty, x_run}
use Rattle.text.proofs.is_x.Goals as goal

pub returns-then-width-eq0 : goal.returns-then-width-eq0
returns-then-width-eq0 c = let a = c.args in x_empty a.bytes.now a.at a.width c.if-width-eq0.true

pub returns : goal.returns
returns c = let a = c.args in x_run a.bytes.now a.at a.width c.if-width-eq0.false c.run.result (run_part 120 120 a.bytes.now a.at (a.at + a.width) a.width c.run.result (omega arith) (omega arith) c.run.ensures.0)
