-- `listing::needed` meets its contract: the bytes counted and those of the lines that are left are the listing's. Assumes nothing.
use Prim.Native.Nat.{ℕ}
use native.Mathlib.Omega.{arith}
use mathlib.Core.Path.{◌≡◌, ◌∙◌}
use mathlib.Core.List.{List}
use Rattle.record.proofs.HeaderLaws.{size_there_lem}
use Rattle.judge.specs.Table.{size_at}
use Rattle.finish.specs.Ahead.{Record}
use Rattle.listing.proofs.WalkLaws.{counted_first, counted_record, counted_next, counted_last, less}
use Rattle.listing.proofs.needed.Goals as goal
use Rattle.listing.proofs.needed.Goals.{In-loop-at, After-size_at-at}

in-turn : (c : In-loop-at) → Record c.args.s.now c.loop-at.at
in-turn c = counted_record c.loop-at.invariant c.loop-at-test.true

pub overflow_add-n : goal.overflow_add-n
overflow_add-n c = omega (arith, c.places.ensures.1)

pub line_width-requires : goal.line_width-requires
line_width-requires c = omega (arith, c.requires.complete.header)

pub overflow_add-n-2 : goal.overflow_add-n-2
overflow_add-n-2 c = omega (arith, c.places.ensures.1, c.line_width.ensures.1)

pub loop-at-init : goal.loop-at-init
loop-at-init c =
    counted_first c.requires c.places.ensures.0 c.places.ensures.1 c.line_width.ensures.0 c.line_width.ensures.1

pub line_width-n-requires : goal.line_width-n-requires
line_width-n-requires c = let w = in-turn c in omega (arith, w.least, w.most)

pub overflow_add-n-in-loop-at : goal.overflow_add-n-in-loop-at
overflow_add-n-in-loop-at c =
    let l = c.loop-at in
    omega (arith, l.invariant.small, l.invariant.asked.small, c.loop-at-test.true, c.line_width-n.ensures.1)

abbrev A : After-size_at-at → List ℕ
A c = c.args.s.now

size : (c : After-size_at-at) → c.size_at-at.result ≡ size_at (A c) c.loop-at.at
size c = let w = in-turn (goal.at.After-size_at-at c).In-loop-at in c.size_at-at.ensures ∙ size_there_lem (A c) c.loop-at.at (omega (arith, w.least, w.most))

pub overflow_add-at : goal.overflow_add-at
overflow_add-at c = let w = in-turn (goal.at.overflow_add-at c).In-loop-at in omega (arith, w.most, size c, c.loop-at.invariant.asked.small)

pub loop-at-smaller : goal.loop-at-smaller
loop-at-smaller c = let w = in-turn (goal.at.loop-at-smaller c).In-loop-at in less c.loop-at-test.true (omega (arith, w.least, size c))

pub loop-at-preserved : goal.loop-at-preserved
loop-at-preserved c =
    counted_next c.loop-at.invariant c.loop-at-test.true c.line_width-n.ensures.0 c.line_width-n.ensures.1 (size c)

pub returns : goal.returns
returns c = counted_last c.loop-at.invariant c.loop-at-test.false
