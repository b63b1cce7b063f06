-- `uth::blocks::fill` meets its contract. The invariant: the segments that are left give what the file gives, judged and put. Assumes nothing.
use mathlib.Core.Path.{◌≡◌, refl, sym, ap, ◌∙◌}
use mathlib.Core.List.{List, map}
use Prim.Native.Nat.{ℕ, ◌+◌, ◌-◌, ◌≤◌, ◌<◌}
use native.Mathlib.Omega.{arith}
use lib.Ieee.{Float}
use lib.ListN.{length}
use Rattle.calendar.specs.Said.{answer}
use Rattle.uth.specs.Layout.{end_at}
use Rattle.uth.specs.Judge.{segment_at}
use Rattle.uth.specs.Blocks.{blocks_from, row_of, pair_of, put_all}
use Rattle.uth.proofs.BlockLaws.{put_rest, put_segment}
use Rattle.uth.proofs.JudgeLaws.{More, more_at, grows, steps}
use Rattle.uth.proofs.PutLaws.{put_length}
use Rattle.uth.proofs.SegmentLaws.{ends_within, counted_as, line_is, column_is, blocks_are}
use Rattle.uth.proofs.blocks.fill.Goals as goal
use Rattle.uth.proofs.blocks.fill.Goals.{In-loop, After-word-n}

-- the segment at p, and those after it
more : (c : In-loop) → More c.args.bytes.now (c.args.m - c.loop.counter - 1) c.loop.p c.loop.i c.requires.n
more c = let x = c.loop in more_at _ (c.args.m - x.counter) x.p x.i _ (omega arith) (sym x.invariant.0 ∙ c.requires.read)

within : (c : In-loop) → end_at c.loop.p (more c).k ≤ length c.args.bytes.now
within c = ends_within _ _ _ (more c).first

room : (c : In-loop) → c.loop.i + (more c).k ≤ c.requires.n
room c = grows _ _ _ _ _ (more c).rest

counted : (c : After-word-n) → (more (goal.at.After-word-n c).In-loop).k ≡ c.word-n.result
counted c = blocks_are _ _ _ (more (goal.at.After-word-n c).In-loop).first c.word-n.result c.word-n.ensures.1 c.word-n.ensures.0

pub loop-init : goal.loop-init
loop-init c = let z : c.args.m - 0 ≡ c.args.m = omega arith in (rw z, rw z, rw z, refl, refl)

pub overflow_add-p : goal.overflow_add-p
overflow_add-p c = omega (arith, within c)

pub word-n-requires : goal.word-n-requires
word-n-requires c = omega (arith, within c)

pub word-line-requires : goal.word-line-requires
word-line-requires c = omega (arith, within (goal.at.word-line-requires c).In-loop)

pub overflow_cast-line : goal.overflow_cast-line
overflow_cast-line c = omega (arith, c.word-line.ensures.1)

pub overflow_add-p-in-loop : goal.overflow_add-p-in-loop
overflow_add-p-in-loop c = omega (arith, within (goal.at.overflow_add-p-in-loop c).In-loop)

pub word-column-requires : goal.word-column-requires
word-column-requires c = omega (arith, within (goal.at.word-column-requires c).In-loop)

pub overflow_cast-column : goal.overflow_cast-column
overflow_cast-column c = omega (arith, c.word-column.ensures.1)

pub overflow_add-p-in-loop-2 : goal.overflow_add-p-in-loop-2
overflow_add-p-in-loop-2 c = omega (arith, within (goal.at.overflow_add-p-in-loop-2 c).In-loop)

pub put_blocks-requires : goal.put_blocks-requires
put_blocks-requires c =
    let x = c.loop in (
      omega (arith, within (goal.at.put_blocks-requires c).In-loop, counted (goal.at.put_blocks-requires c).After-word-n),
      omega (arith, room (goal.at.put_blocks-requires c).In-loop, counted (goal.at.put_blocks-requires c).After-word-n, c.requires.rowed, x.invariant.3),
      omega (arith, room (goal.at.put_blocks-requires c).In-loop, counted (goal.at.put_blocks-requires c).After-word-n, c.requires.paired, x.invariant.4),
    )

pub overflow_add-p-in-loop-3 : goal.overflow_add-p-in-loop-3
overflow_add-p-in-loop-3 c = omega (arith, within (goal.at.overflow_add-p-in-loop-3 c).In-loop)

pub overflow_mul-p : goal.overflow_mul-p
overflow_mul-p c =
    omega (arith, within (goal.at.overflow_mul-p c).In-loop, counted (goal.at.overflow_mul-p c).After-word-n)

pub overflow_add-p-in-loop-4 : goal.overflow_add-p-in-loop-4
overflow_add-p-in-loop-4 c =
    omega (arith, within (goal.at.overflow_add-p-in-loop-4 c).In-loop, counted (goal.at.overflow_add-p-in-loop-4 c).After-word-n)

pub overflow_add-i : goal.overflow_add-i
overflow_add-i c =
    omega (arith, room (goal.at.overflow_add-i c).In-loop, counted (goal.at.overflow_add-i c).After-word-n, c.requires.rowed, c.loop.invariant.3)

pub loop-preserved : goal.loop-preserved
loop-preserved c =
    let x = c.loop in
    let a = c.args.bytes.now in
    let w = c.word-n in
    let l = c.word-line in
    let m = c.word-column in
    let h : 0 < c.args.m - x.counter = omega arith in
    let one : c.args.m - x.counter - 1 ≡ c.args.m - (x.counter + 1) = omega arith in
    let e : segment_at a x.p ≡ answer w.result = (more (goal.at.loop-preserved c).In-loop).first ∙ ap answer (counted (goal.at.loop-preserved c).After-word-n) in
    let el = line_is a x.p _ e l.result l.ensures.1 l.ensures.0 in
    let ec = column_is a x.p _ e m.result m.ensures.1 m.ensures.0 in
    let ek = counted_as a x.p _ e in
    let q = c.put_blocks.ensures in (
      rw (← one) (x.invariant.0 ∙ steps a (c.args.m - x.counter) x.p x.i h w.result e),
      rw (← one) (ap (λ (r : List (List ℕ)). put_all r (x.i + w.result) (map row_of (blocks_from a (c.args.m - x.counter - 1) (end_at x.p w.result)))) q.0 ∙ sym (put_segment row_of a x.blocks x.i (c.args.m - x.counter) x.p _ _ w.result h el ec ek) ∙ x.invariant.1),
      rw (← one) (ap (λ (r : List (List Float)). put_all r (x.i + w.result) (map pair_of (blocks_from a (c.args.m - x.counter - 1) (end_at x.p w.result)))) q.1 ∙ sym (put_segment pair_of a x.values x.i (c.args.m - x.counter) x.p _ _ w.result h el ec ek) ∙ x.invariant.2),
      ap length q.0 ∙ put_length x.blocks x.i _ ∙ x.invariant.3,
      ap length q.1 ∙ put_length x.values x.i _ ∙ x.invariant.4,
    )

pub shape_of-blocks : goal.shape_of-blocks
shape_of-blocks c = c.loop.invariant.3

pub shape_of-values : goal.shape_of-values
shape_of-values c = c.loop.invariant.4

pub returns : goal.returns
returns c =
    let x = c.loop in
    let a = c.args.bytes.now in
    let z : (c.args.m - x.counter) ≡ 0 = omega arith in (
      sym (put_rest row_of a x.blocks x.i (c.args.m - x.counter) x.p z) ∙ x.invariant.1 ∙ ap (λ (m : ℕ). put_all c.args.blocks.now 0 (map row_of (blocks_from a m 642))) (sym c.requires.counted),
      sym (put_rest pair_of a x.values x.i (c.args.m - x.counter) x.p z) ∙ x.invariant.2 ∙ ap (λ (m : ℕ). put_all c.args.values.now 0 (map pair_of (blocks_from a m 642))) (sym c.requires.counted),
    )
