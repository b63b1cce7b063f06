-- `replay::run::replay_parts` meets its contract. The invariant: the watch stands for the parts before k, and the record
-- agrees with each of its answers (RunLaws). Assumes nothing.
use mathlib.Core.Path.{◌≡◌, refl, ap}
use Prim.Native.Nat.{ℕ, ◌+◌, ◌*◌, ◌^◌, ◌≤◌, ◌<◌}
use native.Mathlib.Omega.{arith}
use borrow.Author.Tests.{not-true, not-false}
use lib.ListN.{length}
use Rattle.replay.specs.Layout.{length_at}
use Rattle.replay.proofs.RunLaws.{starts, part_within, ends_none, goes_on, ends_first}
use Rattle.replay.proofs.run.replay_parts.Goals as goal
use Rattle.replay.proofs.run.replay_parts.Goals.{In-loop-k, After-number_at}

-- the numbers of part k are in the record
room : (c : In-loop-k) →
    (20 + 4 * c.args.n + 12 * c.loop-k.k ≤ length c.args.recorded.now) × (c.loop-k.k < c.args.n) × (length c.args.recorded.now < 2 ^ 64)
room c =
    let f = c.requires.fit in
    (omega (arith, c.requires.counted, f.sized, f.even, c.loop-k-test.true), c.loop-k-test.true, c.well_formed.0.0)

-- the length that was read
far : (c : After-number_at) →
    c.loop-k.at + c.number_at.result ≡ c.loop-k.at + length_at c.args.recorded.now c.loop-k.k
far c = ap (λ (m : ℕ). c.loop-k.at + m) c.number_at.ensures.0

within : (c : After-number_at) →
    c.loop-k.at + c.number_at.result ≤ length c.args.product.now
within c =
    let p = c.requires in
    let w = part_within c.loop-k.invariant.before (omega (arith, p.counted, c.loop-k-test.true)) p.fit.summed in
    omega (arith, far c)

pub loop-k-init : goal.loop-k-init
loop-k-init c = starts _ _ c.new-w.result c.new-w.ensures.fresh

pub overflow_add-k : goal.overflow_add-k
overflow_add-k c = let p = room c in omega arith

pub number_at-requires : goal.number_at-requires
number_at-requires c = let p = room c in omega arith

pub overflow_add-to : goal.overflow_add-to
overflow_add-to c = let w = within c in omega arith

pub slice_bounds-feed-count : goal.slice_bounds-feed-count
slice_bounds-feed-count c = omega arith

pub slice_bounds-feed-start : goal.slice_bounds-feed-start
slice_bounds-feed-start c = let w = within (goal.at.slice_bounds-feed-start c).After-number_at in omega arith

pub slice_bounds-feed-end : goal.slice_bounds-feed-end
slice_bounds-feed-end c = let w = within (goal.at.slice_bounds-feed-end c).After-number_at in omega arith

pub overflow_add-n : goal.overflow_add-n
overflow_add-n c = let p = room (goal.at.overflow_add-n c).In-loop-k in omega arith

pub overflow_mul-k : goal.overflow_mul-k
overflow_mul-k c = let p = room (goal.at.overflow_mul-k c).In-loop-k in omega arith

pub overflow_add-n-in-loop-k : goal.overflow_add-n-in-loop-k
overflow_add-n-in-loop-k c = let p = room (goal.at.overflow_add-n-in-loop-k c).In-loop-k in omega arith

pub is_recorded-requires : goal.is_recorded-requires
is_recorded-requires c = let p = room (goal.at.is_recorded-requires c).In-loop-k in omega arith

pub returns-then-not-is_recorded : goal.returns-then-not-is_recorded
returns-then-not-is_recorded c =
    let p = c.requires in
    ends_first p.fit p.counted c.loop-k.invariant c.loop-k-test.true _ (far (goal.at.returns-then-not-is_recorded c).After-number_at) refl c.feed-answer.ensures c.is_recorded.ensures (not-true c.is_recorded.result c.if-not-is_recorded.true-raw)

pub loop-k-preserved : goal.loop-k-preserved
loop-k-preserved c =
    let p = c.requires in
    goes_on p.fit p.counted c.loop-k.invariant c.loop-k-test.true _ (far (goal.at.loop-k-preserved c).After-number_at) refl c.feed-answer.ensures c.is_recorded.ensures (not-false c.is_recorded.result c.if-not-is_recorded.false-raw)

pub returns : goal.returns
returns c =
    let p = c.requires in
    ends_none p.fit p.counted c.loop-k.invariant (omega arith)
