-- `uth::judge::judge_segments` meets its contract. The invariant: the segments that are left give the whole. Assumes nothing.
use mathlib.Core.Path.{◌≡◌, sym, ap, ◌∙◌}
use Prim.Native.Nat.{◌+◌, ◌-◌, ◌≤◌}
use native.Mathlib.Omega.{arith}
use lib.ListN.{length}
use Rattle.calendar.specs.Said.{said}
use Rattle.calendar.specs.Said.{answer}
use Rattle.uth.specs.Layout.{end_at}
use Rattle.uth.specs.Judge.{segment_at}
use Rattle.uth.proofs.JudgeLaws.{steps, stops, ends, leaves}
use Rattle.uth.proofs.SegmentLaws.{ends_within}
use Rattle.std.proofs.lemmas.Result.{err_from_is_err_and}
use Rattle.std.proofs.Common.{rules}
use Rattle.uth.proofs.judge.judge_segments.Goals as goal
use Rattle.uth.proofs.judge.judge_segments.Goals.{In_ok-n}

-- the segment at p has n blocks, and they lie in the file
answered-as : (c : In_ok-n) → segment_at c.args.bytes.now c.loop.p ≡ answer c.in_ok-n.n
answered-as c = sym c.segment.ensures ∙ ap said c.in_ok-n.was

within : (c : In_ok-n) → end_at c.loop.p c.in_ok-n.n ≤ length c.args.bytes.now
within c = ends_within _ _ _ (answered-as c)

pub loop-init : goal.loop-init
loop-init c = let z : c.args.m - 0 ≡ c.args.m = omega arith in (rw z, omega (arith, c.requires), omega arith)

pub segment-requires : goal.segment-requires
segment-requires c = c.loop.invariant.1

pub returns-in_err-n : goal.returns-in_err-n
returns-in_err-n c =
    let q = err_from_is_err_and c.from_residual.result c.from_residual.ensures.1 in
    let e : c.segment.result ≡ c.from_residual.result = search rules in
    let a = c.args.bytes.now in
    ap said q.1 ∙ sym (c.loop.invariant.0 ∙ stops a (c.args.m - c.loop.counter) c.loop.p c.loop.count (omega arith) _ _ (sym c.segment.ensures ∙ ap said (e ∙ q.1)))

pub overflow_add-p : goal.overflow_add-p
overflow_add-p c = omega (arith, within c)

pub overflow_mul-p : goal.overflow_mul-p
overflow_mul-p c = omega (arith, within c)

pub overflow_add-p-in-loop : goal.overflow_add-p-in-loop
overflow_add-p-in-loop c = omega (arith, within c)

pub overflow_add-count : goal.overflow_add-count
overflow_add-count c = omega (arith, within c, c.loop.invariant.2)

pub loop-preserved : goal.loop-preserved
loop-preserved c =
    let a = c.args.bytes.now in
    let one : c.args.m - c.loop.counter - 1 ≡ c.args.m - (c.loop.counter + 1) = omega arith in (
      rw (← one) (c.loop.invariant.0 ∙ steps a (c.args.m - c.loop.counter) c.loop.p c.loop.count (omega arith) c.in_ok-n.n (answered-as c)),
      within c,
      omega (arith, c.loop.invariant.2),
    )

pub returns-then-p-bytes : goal.returns-then-p-bytes
returns-then-p-bytes c =
    let a = c.args.bytes.now in
    let z : (c.args.m - c.loop.counter) ≡ 0 = omega arith in
    ap said c.refused.ensures ∙ sym (c.loop.invariant.0 ∙ leaves a (c.args.m - c.loop.counter) c.loop.p c.loop.count z c.if-p-bytes.true)

pub returns : goal.returns
returns c =
    let a = c.args.bytes.now in
    let z : (c.args.m - c.loop.counter) ≡ 0 = omega arith in
    sym (c.loop.invariant.0 ∙ ends a (c.args.m - c.loop.counter) c.loop.p c.loop.count z c.if-p-bytes.false)
