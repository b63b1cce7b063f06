-- `watch::advance` meets its contract: what stands for something is sane, so it is never turned away (`stands_sane`). Assumes nothing.
use native.Mathlib.Omega.{arith}
use borrow.Author.Tests.{not-true, not-false}
use Rattle.watch.proofs.StepLaws.{stands_sane, walking_on, resting}
use Rattle.watch.proofs.advance.Goals as goal

pub returns-in-Some : goal.returns-in-Some
returns-in-Some c = let e = c.in-Some.ensures in λ a s z. resting s z c.if-got-lt3307.false _ e.0 (omega (arith, e.0, e.1))

pub returns-then-not-is_sane : goal.returns-then-not-is_sane
returns-then-not-is_sane c =
    λ a s z. let q = stands_sane s z c.if-got-lt3307.false in absurd (c.is_sane.ensures.bad (not-true c.is_sane.result c.if-not-is_sane.true-raw) q.0 q.1)

pub walk-requires : goal.walk-requires
walk-requires c = let q = c.is_sane.ensures.good (not-false c.is_sane.result c.if-not-is_sane.false-raw) in (q.0, omega (arith, q.1, q.0.small))

pub returns : goal.returns
returns c = λ a s z. c.walk.ensures _ _ (walking_on s z c.if-got-lt3307.false _)
