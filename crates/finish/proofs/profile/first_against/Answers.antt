-- `finish::profile::first_against` meets its contract: the records from byte 0 on have the first against the profile of those from `at` on. Assumes nothing.
use Prim.Native.Nat.{ℕ, ◌+◌, ◌≤◌}
use native.Mathlib.Omega.{arith}
use mathlib.Core.List.{List}
use mathlib.Core.Path.{◌≡◌, sym, subst, ◌∙◌}
use lib.ListN.{length}
use Rattle.judge.specs.Table.{size_at}
use Rattle.finish.specs.Ahead.{Record, Ahead}
use Rattle.finish.proofs.AheadLaws.{there}
use Rattle.finish.proofs.ProfileLaws.{Asking, asked_first, asked_record, asked_stop, asked_next, asked_last, leaps, empty_against}
use Rattle.finish.proofs.profile.first_against.Goals as goal
use Rattle.finish.proofs.profile.first_against.Goals.{In-loop-at, After-size_at, After-leap-at}

here : (c : In-loop-at) → Record c.args.s.now c.loop-at.at
here c = let g = c.requires.0 in asked_record (c.loop-at.invariant g.starts g.ahead) c.loop-at-test.true

come : (c : In-loop-at) → c.loop-at.at + 20 ≤ length c.args.s.now
come c = omega (arith, (here c).least, (here c).most)

pub returns-then-profile-eq0 : goal.returns-then-profile-eq0
returns-then-profile-eq0 c = empty_against c.args.profile.now c.args.s.now c.if-profile-eq0.true

pub loop-at-init : goal.loop-at-init
loop-at-init c = λ l w. asked_first c.args.profile.now w

pub bounds-s-at-in-loop-at : goal.bounds-s-at-in-loop-at
bounds-s-at-in-loop-at c = omega (arith, come (goal.at.bounds-s-at-in-loop-at c).In-loop-at)

pub bounds-s-at-in-loop-at-2 : goal.bounds-s-at-in-loop-at-2
bounds-s-at-in-loop-at-2 c = omega (arith, come (goal.at.bounds-s-at-in-loop-at-2 c).In-loop-at)

pub bounds-s-at-in-loop-at-3 : goal.bounds-s-at-in-loop-at-3
bounds-s-at-in-loop-at-3 c = omega (arith, come (goal.at.bounds-s-at-in-loop-at-3 c).In-loop-at)

pub returns-then-not-allows : goal.returns-then-not-allows
returns-then-not-allows c =
    λ l w. sym (asked_stop (c.loop-at.invariant l w) c.loop-at-test.true (sym c.allows.ensures ∙ c.if-not-allows.true))

-- the size of the record
size_is : (c : After-size_at) → c.size_at.result ≡ size_at c.args.s.now c.loop-at.at
size_is c = c.size_at.ensures ∙ there (here (goal.at.After-size_at c).In-loop-at)

pub overflow_add-at-in-loop-at-3 : goal.overflow_add-at-in-loop-at-3
overflow_add-at-in-loop-at-3 c = omega (arith, (here (goal.at.overflow_add-at-in-loop-at-3 c).In-loop-at).most, size_is c)

again : (c : After-leap-at) (l : List ℕ) → Ahead c.args.s.now 0 l → Asking c.args.profile.now c.args.s.now l c.leap-at.result × (c.loop-at.at + c.size_at.result ≤ c.leap-at.result)
again c l w =
    let n = asked_next (c.loop-at.invariant l w) c.loop-at-test.true (sym c.allows.ensures ∙ c.if-not-allows.false) in
    leaps (subst (λ (z : ℕ). Asking c.args.profile.now c.args.s.now l (c.loop-at.at + z)) (sym (size_is (goal.at.After-leap-at c).After-size_at)) n) c.requires.1 c.leap-at.ensures

pub loop-at-smaller : goal.loop-at-smaller
loop-at-smaller c =
    let g = c.requires.0 in
    omega (arith, (again c g.starts g.ahead).1, size_is (goal.at.loop-at-smaller c).After-size_at, (here (goal.at.loop-at-smaller c).In-loop-at).least, c.loop-at-test.true)

pub loop-at-preserved : goal.loop-at-preserved
loop-at-preserved c = λ l w. (again c l w).0

pub returns : goal.returns
returns c = λ l w. sym (asked_last (c.loop-at.invariant l w) c.loop-at-test.false)
