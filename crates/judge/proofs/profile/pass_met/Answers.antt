-- `judge::profile::pass_met` meets its contract: the records before `at` meet the profile, and those from there on are of the size. Assumes nothing.
use Rattle.std.proofs.Common.{arith}
use Rattle.judge.proofs.ProfileLaws.{passed_none, passed_joined}
use Rattle.judge.proofs.profile.pass_met.Goals as goal

pub loop-at-init : goal.loop-at-init
loop-at-init c = passed_none c.requires

pub pass_some-next-requires : goal.pass_some-next-requires
pass_some-next-requires c = (c.loop-at.invariant.left, c.loop-at-test.true)

pub returns-then-next-at : goal.returns-then-next-at
returns-then-next-at c = c.loop-at.invariant

pub loop-at-smaller : goal.loop-at-smaller
loop-at-smaller c = omega (arith, c.if-next-at.false, c.loop-at-test.true)

pub loop-at-preserved : goal.loop-at-preserved
loop-at-preserved c = passed_joined c.loop-at.invariant c.pass_some-next.ensures

pub returns : goal.returns
returns c = c.loop-at.invariant
