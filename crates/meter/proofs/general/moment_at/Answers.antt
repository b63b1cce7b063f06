-- `meter::general::moment_at` meets its contract. Each number is of digits, so below a power of 10, and fits its field.
-- Assumes nothing.
use Prim.Native.Nat.{◌+◌, ◌-◌}
use native.Mathlib.Omega.{arith}
use Rattle.meter.proofs.GeneralCode.{part_small}
use Rattle.meter.proofs.GeneralRuns.{moment_read}
use Rattle.meter.proofs.general.moment_at.Goals as goal

pub overflow_cast-result : goal.overflow_cast-result
overflow_cast-result c =
    let a = c.args in
    omega (arith, c.number.ensures, part_small a.n a.bytes.now a.at a.at 4 4 c.requires.3 (omega arith) (omega arith) (omega arith))

pub overflow_cast-result-2 : goal.overflow_cast-result-2
overflow_cast-result-2 c =
    let a = c.args in
    omega (arith, c.number-2.ensures, part_small a.n a.bytes.now a.at (a.at + 4) 2 2 c.requires.3 (omega arith) (omega arith) (omega arith))

pub overflow_cast-result-3 : goal.overflow_cast-result-3
overflow_cast-result-3 c =
    let a = c.args in
    omega (arith, c.number-3.ensures, part_small a.n a.bytes.now a.at (a.at + 6) 2 2 c.requires.3 (omega arith) (omega arith) (omega arith))

pub overflow_cast-result-4 : goal.overflow_cast-result-4
overflow_cast-result-4 c =
    let a = c.args in
    omega (arith, c.number-4.ensures, part_small a.n a.bytes.now a.at (a.at + 8) 2 2 c.requires.3 (omega arith) (omega arith) (omega arith))

pub overflow_cast-result-5 : goal.overflow_cast-result-5
overflow_cast-result-5 c =
    let a = c.args in
    omega (arith, c.number-5.ensures, part_small a.n a.bytes.now a.at (a.at + 10) 2 2 c.requires.3 (omega arith) (omega arith) (omega arith))

pub overflow_cast-result-6 : goal.overflow_cast-result-6
overflow_cast-result-6 c =
    let a = c.args in
    omega (arith, c.number-6.ensures, part_small a.n a.bytes.now a.at (a.at + 12) 2 2 c.requires.3 (omega arith) (omega arith) (omega arith))

pub overflow_cast-result-7 : goal.overflow_cast-result-7
overflow_cast-result-7 c =
    let a = c.args in
    omega (arith, c.number-7.ensures, part_small a.n a.bytes.now a.at (a.at + 14) (a.n - 14) 3 c.requires.3 (omega arith) (omega arith) (omega arith))

pub returns : goal.returns
returns c =
    let a = c.args in
    moment_read a.n a.bytes.now a.at c.number.result c.number-2.result c.number-3.result c.number-4.result c.number-5.result c.number-6.result c.number-7.result
    c.number.ensures c.number-2.ensures c.number-3.ensures c.number-4.ensures c.number-5.ensures c.number-6.ensures c.number-7.ensures
