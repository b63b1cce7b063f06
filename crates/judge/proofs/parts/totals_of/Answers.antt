-- `judge::parts::totals_of` meets its contract: what the loop has read, and of a fine main header the totals (CountLaws). Assumes nothing.
use Rattle.std.proofs.Common.{arith}
use Rattle.judge.specs.Turning.{TotalsRead}
use Rattle.judge.proofs.CountLaws.{totals_said}
use Rattle.judge.proofs.parts.totals_of.Goals as goal

pub returns : goal.returns
returns c =
    let i = c.loop-j.invariant in
    let r : TotalsRead c.args.main.now c.loop-j.total-items = record { nine = i.nine; read = λ k l. i.same k (omega (arith, c.loop-j-test.false)) } in
    (r, totals_said r)
