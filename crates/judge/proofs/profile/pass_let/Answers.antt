-- `judge::profile::pass_let` meets its contract: the records before `at` meet the profile, by the line, and those from there on are of the size. Assumes
-- nothing.
use Rattle.std.proofs.Common.{◌+◌, ◌≤◌, length, sym, ◌∙◌, arith}
use borrow.Author.Tests.{not-false}
use Rattle.judge.proofs.ProfileLaws.{by_line, one_room, passed_none, passed_one, passed_joined}
use Rattle.judge.proofs.profile.pass_let.Goals as goal
use Rattle.judge.proofs.profile.pass_let.Goals.{In-loop-at}

-- the record at hand has come
come : (c : In-loop-at) → c.loop-at.at + 20 ≤ length c.args.s.now
come c = let o = c.loop-at.invariant.left in omega (arith, one_room o c.loop-at-test.true, o.least)

pub bounds-s-at : goal.bounds-s-at
bounds-s-at c = omega (arith, come (goal.at.bounds-s-at c).In-loop-at)

pub overflow_add-at : goal.overflow_add-at
overflow_add-at c = omega (arith, come (goal.at.overflow_add-at c).In-loop-at)

pub bounds-s-at-in-loop-at : goal.bounds-s-at-in-loop-at
bounds-s-at-in-loop-at c = omega (arith, come (goal.at.bounds-s-at-in-loop-at c).In-loop-at)

pub overflow_add-at-in-loop-at : goal.overflow_add-at-in-loop-at
overflow_add-at-in-loop-at c = omega (arith, come (goal.at.overflow_add-at-in-loop-at c).In-loop-at)

pub bounds-s-at-in-loop-at-2 : goal.bounds-s-at-in-loop-at-2
bounds-s-at-in-loop-at-2 c = omega (arith, come (goal.at.bounds-s-at-in-loop-at-2 c).In-loop-at)

pub overflow_add-at-in-loop-at-2 : goal.overflow_add-at-in-loop-at-2
overflow_add-at-in-loop-at-2 c = omega (arith, come (goal.at.overflow_add-at-in-loop-at-2 c).In-loop-at)

pub bounds-s-at-in-loop-at-3 : goal.bounds-s-at-in-loop-at-3
bounds-s-at-in-loop-at-3 c = omega (arith, come (goal.at.bounds-s-at-in-loop-at-3 c).In-loop-at)

pub returns-then-not-is_let : goal.returns-then-not-is_let
returns-then-not-is_let c = c.loop-at.invariant

pub overflow_add-at-in-loop-at-3 : goal.overflow_add-at-in-loop-at-3
overflow_add-at-in-loop-at-3 c = omega (arith, one_room c.loop-at.invariant.left c.loop-at-test.true)

pub loop-at-smaller : goal.loop-at-smaller
loop-at-smaller c = omega (arith, c.loop-at.invariant.left.least, c.loop-at-test.true)

pub loop-at-preserved : goal.loop-at-preserved
loop-at-preserved c =
    let v = c.loop-at.invariant in
    passed_joined v (passed_one v.left c.loop-at-test.true (by_line c.args.profile.now _ _ _ _ c.args.i c.requires.1 (sym c.is_let.ensures ∙ not-false c.is_let.result c.if-not-is_let.false-raw)))

pub loop-at-init : goal.loop-at-init
loop-at-init c = passed_none c.requires.0

pub returns : goal.returns
returns c = c.loop-at.invariant
