-- `judge::run::run_of` meets its contract: the invariant is the run so far, before the limit. Assumes nothing.
use Rattle.std.proofs.Common.{◌≤◌, length, arith}
use borrow.Author.Tests.{not-false}
use Rattle.judge.specs.Run.{Liking, none, more}
use Rattle.judge.proofs.run.run_of.Invariants.{Before}
use Rattle.judge.proofs.run.run_of.Goals as goal
use Rattle.judge.proofs.run.run_of.Goals.{Else-not-is_run, After-min-limit}

liked : (c : Else-not-is_run) → Liking c.args.class c.args.size × (20 ≤ c.args.d)
liked c = c.is_run.ensures (not-false c.is_run.result c.if-not-is_run.false-raw)

pub returns-then-not-is_run : goal.returns-then-not-is_run
returns-then-not-is_run c = λ _. none

pub returns-then-not-is_next : goal.returns-then-not-is_next
returns-then-not-is_next c = λ _. none

-- up to the limit all has come
limit-come : (c : After-min-limit) → Before (length c.args.s.now) c.args.due c.args.d c.min-limit.result
limit-come c =
    record { come = omega arith; due-after = omega arith; left = omega (arith, (liked (goal.at.After-min-limit c).Else-not-is_run).1) }

pub loop-count-init : goal.loop-count-init
loop-count-init c =
    let n = c.is_next.ensures (not-false c.is_next.result c.if-not-is_next.false-raw) in
    (omega (arith, n), omega (arith, n), limit-come (goal.at.loop-count-init c).After-min-limit, (liked (goal.at.loop-count-init c).Else-not-is_run).0, λ _. none)

pub loop-count-preserved : goal.loop-count-preserved
loop-count-preserved c =
    let i = c.loop-count.invariant in (
      c.if-limit-next.false,
      i.1,
      i.2,
      i.3,
      λ r. more (i.4 r) c.loop-count-test.true (omega (arith, c.if-limit-next.false, i.2.due-after)) (omega (arith, c.if-limit-next.false, i.2.left)) (omega (arith, c.if-limit-next.false, i.2.come)) (c.is_like.ensures (not-false c.is_like.result c.if-not-is_like.false-raw) r),
    )
