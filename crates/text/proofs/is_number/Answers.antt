-- `text::is_number` meets its contract: each way out by its tests (Laws). Assumes nothing.
use native.Mathlib.Omega.{arith}
use Prim.Native.Nat.{◌+◌, ◌-◌}
use Rattle.meter.proofs.GeneralRuns.{run_part}
use Rattle.text.proofs.Laws.{number_blank, number_short, number_rest}
use Rattle.text.proofs.is_number.Goals as goal

pub returns-then-width-blank : goal.returns-then-width-blank
returns-then-width-blank c = let a = c.args in number_blank a.signed a.bytes.now a.at a.width c.run-blank.result (run_part 32 32 a.bytes.now a.at (a.at + a.width) a.width c.run-blank.result (omega arith) (omega arith) c.run-blank.ensures.0) c.if-width-blank.true

pub returns-then-width-m : goal.returns-then-width-m
returns-then-width-m c = let a = c.args in number_short a.signed a.bytes.now a.at a.width c.run-blank.result (run_part 32 32 a.bytes.now a.at (a.at + a.width) a.width c.run-blank.result (omega arith) (omega arith) c.run-blank.ensures.0) c.if-width-blank.false c.sign.result c.sign.ensures.0 c.if-width-m.true

pub returns : goal.returns
returns c = let a = c.args in number_rest a.signed a.bytes.now a.at a.width c.run-blank.result (run_part 32 32 a.bytes.now a.at (a.at + a.width) a.width c.run-blank.result (omega arith) (omega arith) c.run-blank.ensures.0) c.if-width-blank.false c.sign.result c.sign.ensures.0 c.if-width-m.false c.run.result (run_part 48 57 a.bytes.now (a.at + (c.run-blank.result + c.sign.result)) (a.at + a.width) (a.width - (c.run-blank.result + c.sign.result)) c.run.result (omega arith) (omega arith) c.run.ensures.0)
