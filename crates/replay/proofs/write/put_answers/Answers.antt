-- `replay::write::put_answers` meets its contract. The invariant: the watch stands for the parts before k, and its
-- answers stand in the room (RunLaws, PutLaws). Assumes nothing.
use mathlib.Core.Path.{◌≡◌, refl, ap, subst}
use Prim.Native.Nat.{ℕ, ◌+◌, ◌*◌, ◌^◌, ◌≤◌, ◌<◌}
use native.Mathlib.Omega.{arith}
use lib.ListN.{length}
use Rattle.replay.specs.Layout.{length_in}
use Rattle.replay.specs.Steps.{PutsAnswers}
use Rattle.replay.proofs.RunLaws.{none_before, part_within, one_before, answered, fits_it}
use Rattle.replay.proofs.PutLaws.{no_answers, answer_put}
use Rattle.replay.proofs.write.put_answers.Goals as goal
use Rattle.replay.proofs.write.put_answers.Goals.{After-wide, After-feed-answer}

-- the length that was read
far : (c : After-wide) →
    c.loop-k.at + c.wide.result ≡ c.loop-k.at + length_in c.args.lengths.now c.loop-k.k
far c = ap (λ (m : ℕ). c.loop-k.at + m) c.wide.ensures.0

within : (c : After-wide) →
    c.loop-k.at + c.wide.result ≤ length c.args.product.now
within c =
    let w = part_within c.loop-k.invariant.0 c.loop-k-test.true c.requires.fit.summed in
    omega (arith, far c)

-- the numbers of part k are in the room
room : (c : After-feed-answer) →
    (20 + 4 * length c.args.lengths.now + 12 * c.loop-k.k ≤ length c.loop-k.room) × (length c.loop-k.room < 2 ^ 64)
room c =
    let long = c.loop-k.invariant.1.kept.long in (
      omega (arith, c.requires.enough, long, c.loop-k-test.true),
      omega (arith, long, c.well_formed.1.1.0.0),
    )

pub loop-k-init : goal.loop-k-init
loop-k-init c = (none_before _ _ c.new-w.result c.new-w.ensures.fresh, no_answers _ _ _)

pub overflow_add-to : goal.overflow_add-to
overflow_add-to c = let w = within c in omega arith

pub slice_bounds-feed-count : goal.slice_bounds-feed-count
slice_bounds-feed-count c = omega arith

pub slice_bounds-feed-start : goal.slice_bounds-feed-start
slice_bounds-feed-start c = let w = within (goal.at.slice_bounds-feed-start c).After-wide in omega arith

pub slice_bounds-feed-end : goal.slice_bounds-feed-end
slice_bounds-feed-end c = let w = within (goal.at.slice_bounds-feed-end c).After-wide in omega arith

pub overflow_add-lengths : goal.overflow_add-lengths
overflow_add-lengths c = let p = room (goal.at.overflow_add-lengths c).After-feed-answer in omega arith

pub overflow_mul-k : goal.overflow_mul-k
overflow_mul-k c = let p = room (goal.at.overflow_mul-k c).After-feed-answer in omega arith

pub overflow_add-lengths-in-loop-k : goal.overflow_add-lengths-in-loop-k
overflow_add-lengths-in-loop-k c = let p = room (goal.at.overflow_add-lengths-in-loop-k c).After-feed-answer in omega arith

pub put_answer-requires : goal.put_answer-requires
put_answer-requires c =
    let p = room (goal.at.put_answer-requires c).After-feed-answer in
    (omega arith, fits_it c.loop-k.invariant.0 _ (far (goal.at.put_answer-requires c).After-wide) refl c.feed-answer.ensures)

pub loop-k-preserved : goal.loop-k-preserved
loop-k-preserved c = (
  one_before c.loop-k.invariant.0 _ (far (goal.at.loop-k-preserved c).After-wide) refl c.feed-answer.ensures,
  answer_put c.loop-k.invariant.1 c.put_answer.ensures (answered c.loop-k.invariant.0 _ (far (goal.at.loop-k-preserved c).After-wide) refl c.feed-answer.ensures),
)

pub shape_of-room : goal.shape_of-room
shape_of-room c = c.loop-k.invariant.1.kept.long

pub returns : goal.returns
returns c =
    let a = c.args in
    let e : c.loop-k.k ≡ length a.lengths.now = omega arith in
    subst (λ (k : ℕ). PutsAnswers a.lengths.now a.product.now k a.room.now c.loop-k.room) e c.loop-k.invariant.1
