-- `uth::blocks::find` meets its contract. The invariant: what is looked for in the segments that are left is block k of the file. Assumes nothing.
use mathlib.Core.Path.{◌≡◌, sym, ap, ◌∙◌}
use Prim.Native.Nat.{◌≤◌, ◌<◌}
use native.Mathlib.Omega.{arith}
use lib.ListN.{length}
use Rattle.calendar.specs.Said.{answer}
use Rattle.uth.specs.Layout.{end_at}
use Rattle.uth.proofs.FindLaws.{Seeking, seek, here, segment_is, after, found}
use Rattle.uth.proofs.SegmentLaws.{ends_within, line_is, column_is, blocks_are, one_least}
use Rattle.uth.proofs.blocks.find.Goals as goal
use Rattle.uth.proofs.blocks.find.Goals.{At-loop-left, After-word-n, After-loop-left}

-- what is known in the loop
at-loop : (c : At-loop-left) → Seeking c.args.bytes.now c.requires.n c.args.k c.loop-left.p c.loop-left.left
at-loop c = let f = c.requires in c.loop-left.invariant f.n f.read f.has

within : (c : At-loop-left) → end_at c.loop-left.p (here _ _ _ _ _ (at-loop c)).more.k ≤ length c.args.bytes.now
within c = ends_within _ _ _ (segment_is _ _ _ _ _ (at-loop c))

has-word2 : (c : After-word-n) → (here _ _ _ _ _ (at-loop (goal.at.After-word-n c).At-loop-left)).more.k ≡ c.word-n.result
has-word2 c = blocks_are _ _ _ (segment_is _ _ _ _ _ (at-loop (goal.at.After-word-n c).At-loop-left)) c.word-n.result c.word-n.ensures.1 c.word-n.ensures.0

in-segment : (c : After-loop-left) → c.loop-left.left < (here _ _ _ _ _ (at-loop (goal.at.After-loop-left c).At-loop-left)).more.k
in-segment c =
    let w = c.word in
    omega (arith, c.loop-left-test.false, blocks_are _ _ _ (segment_is _ _ _ _ _ (at-loop (goal.at.After-loop-left c).At-loop-left)) w.result w.ensures.1 w.ensures.0)

pub loop-left-init : goal.loop-left-init
loop-left-init c = λ n e h. seek _ n _ e h

pub overflow_add-p : goal.overflow_add-p
overflow_add-p c = omega (arith, within c)

pub word-requires : goal.word-requires
word-requires c = omega (arith, within c)

pub overflow_add-p-in-loop-left : goal.overflow_add-p-in-loop-left
overflow_add-p-in-loop-left c = omega (arith, within (goal.at.overflow_add-p-in-loop-left c).At-loop-left)

pub word-n-requires : goal.word-n-requires
word-n-requires c = omega (arith, within (goal.at.word-n-requires c).At-loop-left)

pub overflow_sub-left : goal.overflow_sub-left
overflow_sub-left c = omega (arith, c.loop-left-test.true, c.word-n.ensures.0, c.word.ensures.0)

pub overflow_add-p-in-loop-left-2 : goal.overflow_add-p-in-loop-left-2
overflow_add-p-in-loop-left-2 c = omega (arith, within (goal.at.overflow_add-p-in-loop-left-2 c).At-loop-left)

pub overflow_mul-p : goal.overflow_mul-p
overflow_mul-p c = omega (arith, within (goal.at.overflow_mul-p c).At-loop-left, has-word2 c)

pub overflow_add-p-in-loop-left-3 : goal.overflow_add-p-in-loop-left-3
overflow_add-p-in-loop-left-3 c = omega (arith, within (goal.at.overflow_add-p-in-loop-left-3 c).At-loop-left, has-word2 c)

pub loop-left-smaller : goal.loop-left-smaller
loop-left-smaller c =
    let x = at-loop (goal.at.loop-left-smaller c).At-loop-left in
    let l = one_least _ _ _ (segment_is _ _ _ _ _ x) in
    omega (arith, has-word2 c, c.loop-left-test.true, c.word-n.ensures.0, c.word.ensures.0)

pub loop-left-preserved : goal.loop-left-preserved
loop-left-preserved c =
    λ n e h.
    let x = c.loop-left.invariant n e h in
    let w = c.word-n in
    after _ n _ c.loop-left.p c.loop-left.left x w.result (blocks_are _ _ _ (segment_is _ _ _ _ _ x) w.result w.ensures.1 w.ensures.0) (omega (arith, c.loop-left-test.true, w.ensures.0, c.word.ensures.0))

pub word-line-requires : goal.word-line-requires
word-line-requires c = omega (arith, within (goal.at.word-line-requires c).At-loop-left)

pub overflow_cast-line : goal.overflow_cast-line
overflow_cast-line c = omega (arith, c.word-line.ensures.1)

pub overflow_add-p-2 : goal.overflow_add-p-2
overflow_add-p-2 c = omega (arith, within (goal.at.overflow_add-p-2 c).At-loop-left)

pub word-column-requires : goal.word-column-requires
word-column-requires c = omega (arith, within (goal.at.word-column-requires c).At-loop-left)

pub overflow_cast-column : goal.overflow_cast-column
overflow_cast-column c = omega (arith, c.word-column.ensures.1)

pub overflow_add-p-3 : goal.overflow_add-p-3
overflow_add-p-3 c = omega (arith, within (goal.at.overflow_add-p-3 c).At-loop-left)

pub overflow_mul-left : goal.overflow_mul-left
overflow_mul-left c = omega (arith, within (goal.at.overflow_mul-left c).At-loop-left, in-segment (goal.at.overflow_mul-left c).After-loop-left)

pub overflow_add-p-4 : goal.overflow_add-p-4
overflow_add-p-4 c = omega (arith, within (goal.at.overflow_add-p-4 c).At-loop-left, in-segment (goal.at.overflow_add-p-4 c).After-loop-left)

pub block_of-requires : goal.block_of-requires
block_of-requires c = omega (arith, within (goal.at.block_of-requires c).At-loop-left, in-segment (goal.at.block_of-requires c).After-loop-left)

pub returns : goal.returns
returns c =
    let x = at-loop (goal.at.returns c).At-loop-left in
    let e = segment_is _ _ _ _ _ x in
    let w = c.word in
    let l = c.word-line in
    let m = c.word-column in
    ap answer c.block_of.ensures
    ∙ sym (found _ _ _ _ _ x l.result m.result w.result c.requires.read (blocks_are _ _ _ e w.result w.ensures.1 w.ensures.0) (line_is _ _ _ e l.result l.ensures.1 l.ensures.0) (column_is _ _ _ e m.result m.ensures.1 m.ensures.0) c.loop-left-test.false)
