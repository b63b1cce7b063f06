-- `listing::put_list` meets its contract: the lines that are left, put into the room as it is, give the whole listing. Assumes nothing.
use Prim.Native.Nat.{ℕ}
use native.Mathlib.Omega.{arith}
use mathlib.Core.Path.{◌≡◌, refl, ◌∙◌}
use mathlib.Core.List.{List}
use Rattle.meter.specs.General.{run_of, lead}
use Rattle.record.proofs.HeaderLaws.{size_there_lem}
use Rattle.judge.specs.Table.{size_at}
use Rattle.finish.specs.Ahead.{Record}
use Rattle.listing.proofs.StoreLaws.{puts_append, puts_length}
use Rattle.listing.proofs.WalkLaws.{Begun, head_fits, begun_laid, laid_record, laid_fits, laid_next, laid_last, begun_last, less}
use Rattle.listing.proofs.put_list.Goals as goal
use Rattle.listing.proofs.put_list.Goals.{After-put_line-p, In-loop-at, After-size_at-at}

begun : (c : After-put_line-p) → Begun c.args.s.now c.args.count c.args.room.now c.put_line-p.result c.put_line-p.new.room
begun c = record { asked = c.requires; puts = puts_append c.put_head-head.ensures c.put_line-p.ensures }

in-turn : (c : In-loop-at) → Record c.args.s.now c.loop-at.at
in-turn c = laid_record c.loop-at.invariant c.loop-at-test.true

pub put_head-head-requires : goal.put_head-head-requires
unfolding run_of lead
put_head-head-requires c = (refl, (head_fits c.requires).1)

pub put_line-p-requires : goal.put_line-p-requires
put_line-p-requires c =
    let q = c.requires in
    (omega (arith, q.asked.complete.header), omega (arith, (head_fits q).0, c.put_head-head.ensures.next, puts_length c.put_head-head.ensures))

pub loop-at-init : goal.loop-at-init
loop-at-init c = begun_laid (begun (goal.at.loop-at-init c).After-put_line-p)

pub put_line-p-requires-in-loop-at : goal.put_line-p-requires-in-loop-at
put_line-p-requires-in-loop-at c =
    let w = in-turn (goal.at.put_line-p-requires-in-loop-at c).In-loop-at in
    (omega (arith, w.least, w.most), laid_fits c.loop-at.invariant c.loop-at-test.true)

abbrev A : After-size_at-at → List ℕ
A c = c.args.s.now

size : (c : After-size_at-at) → c.size_at-at.result ≡ size_at (A c) c.loop-at.at
size c = let w = in-turn (goal.at.After-size_at-at c).In-loop-at in c.size_at-at.ensures ∙ size_there_lem (A c) c.loop-at.at (omega (arith, w.least, w.most))

pub overflow_add-at : goal.overflow_add-at
overflow_add-at c = omega (arith, (in-turn (goal.at.overflow_add-at c).In-loop-at).most, size c, c.loop-at.invariant.asked.small)

pub loop-at-smaller : goal.loop-at-smaller
loop-at-smaller c = less c.loop-at-test.true (omega (arith, (in-turn (goal.at.loop-at-smaller c).In-loop-at).least, size c))

pub loop-at-preserved : goal.loop-at-preserved
loop-at-preserved c = laid_next c.loop-at.invariant c.loop-at-test.true c.put_line-p-in-loop-at.ensures (size c)

pub shape_of-room : goal.shape_of-room
shape_of-room c = c.loop-at.invariant.size ∙ puts_length (begun (goal.at.shape_of-room c).After-put_line-p).puts

pub returns : goal.returns
returns c = begun_last (begun (goal.at.returns c).After-put_line-p) (laid_last c.loop-at.invariant c.loop-at-test.false)
