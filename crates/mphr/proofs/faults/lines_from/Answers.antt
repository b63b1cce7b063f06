-- `mphr::faults::lines_from` meets its contract: where a line after the first has come, and the bytes before it show no fault, each fault is of a
-- later stage (`resumed`), which the walk asks; else the whole header is judged. Assumes nothing.
use native.Mathlib.Omega.{arith}
use Rattle.mphr.proofs.TurnLaws.{resumed}
use Rattle.mphr.proofs.faults.lines_from.Goals as goal

pub returns-then-line-eq0 : goal.returns-then-line-eq0
returns-then-line-eq0 c = λ _. c.from_first.ensures

pub returns-then-line-ge72 : goal.returns-then-line-ge72
returns-then-line-ge72 c = λ _. c.from_first-then-line-ge72.ensures

pub returns-then-s-from : goal.returns-then-s-from
returns-then-s-from c = λ _. c.from_first-then-s-from.ensures

pub walk-requires : goal.walk-requires
walk-requires c = record { line = omega arith; at_is = c.start-from.ensures; come = c.if-s-from.false }

pub returns : goal.returns
returns c = λ r. c.walk.ensures (resumed (omega arith) (omega (arith, c.start-from.ensures, c.if-s-from.false)) r)
