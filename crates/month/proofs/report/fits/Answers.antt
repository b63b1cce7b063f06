-- `month::report::fits` meets its contract: the products, then each place. Assumes nothing.
use native.Mathlib.Omega.{arith}
use Rattle.std.proofs.Common.{rules}
use Rattle.std.proofs.lemmas.Iterator.{cases_from_all, YieldsList-from_slice, YieldsList-from_zip}
use Rattle.month.proofs.PlusLaws.{many_other, many_both, Fits, Passes, all_fit}
use Rattle.month.proofs.report.fits.Goals as goal

pub returns-then-other-gt4096 : goal.returns-then-other-gt4096
returns-then-other-gt4096 c = let a = c.args in many_other a.report.now a.other.now c.if-other-gt4096.true

pub returns-then-report-other : goal.returns-then-report-other
returns-then-report-other c = let a = c.args in many_both a.report.now a.other.now c.if-report-other.true

pub returns : goal.returns
returns c =
    let a = c.args in
    let x = a.report.now in
    let y = a.other.now in
    all_fit x y c.told-report c.told-other c.all.result (omega (arith, c.if-report-other.false, c.if-other-gt4096.false))
    (cases_from_all c.all.new.self _ c.all.result (Fits x y) (Passes x y) c.all.ensures.ran (YieldsList-from_zip (YieldsList-from_slice x cc) (YieldsList-from_slice y cc)) (λ x q k. search rules) (λ x q k. search rules))
