-- `rewrite::survey::put_kept` meets its contract: the records that are left, put into the room as it is, give all that are kept. Assumes nothing.
use native.Mathlib.Omega.{arith}
use mathlib.Core.Path.{◌≡◌, ◌∙◌, ap}
use lib.ListN.{length, length-append}
use Rattle.record.proofs.HeaderLaws.{size_there_lem}
use Rattle.demands.specs.Product.{size}
use Rattle.parts.specs.Cut.{Window, window}
use Rattle.rewrite.specs.Keeping.{kept_text, text_at}
use Rattle.rewrite.proofs.KeepLaws.{Turn, turn, putting_first, putting_next, putting_last}
use Rattle.rewrite.proofs.survey.put_kept.Goals as goal
use Rattle.rewrite.proofs.survey.put_kept.Goals.{In-loop-at, After-size_at-size}

abbrev w : In-loop-at → Window
w c = window c.args.first c.args.last

in-turn : (c : In-loop-at) → Turn (w c) c.args.s.now c.loop-at.at c.loop-at.invariant.rest
in-turn c = turn (w c) c.loop-at.invariant.walk c.loop-at-test.true

size_is : (c : After-size_at-size) → c.size_at-size.result ≡ size c.args.s.now c.loop-at.at
size_is c = let t = in-turn (goal.at.After-size_at-size c).In-loop-at in c.size_at-size.ensures ∙ size_there_lem c.args.s.now c.loop-at.at (omega (arith, t.least, t.most))

pub loop-at-init : goal.loop-at-init
loop-at-init c = putting_first c.requires

pub put_one-to-requires : goal.put_one-to-requires
put_one-to-requires c =
    let t = in-turn (goal.at.put_one-to-requires c).In-loop-at in
    let z = size_is (goal.at.put_one-to-requires c).After-size_at-size in
    let a = c.args in (
      t.lead,
      omega (arith, t.most, z),
      rw z (omega (arith, c.loop-at.invariant.fits, ap length t.text, length-append (text_at (w (goal.at.put_one-to-requires c).In-loop-at) a.s.now c.loop-at.at (size a.s.now c.loop-at.at)) (kept_text (w (goal.at.put_one-to-requires c).In-loop-at) t.after))),
    )

pub overflow_add-at : goal.overflow_add-at
overflow_add-at c = let t = in-turn (goal.at.overflow_add-at c).In-loop-at in omega (arith, t.most, size_is (goal.at.overflow_add-at c).After-size_at-size)

pub loop-at-smaller : goal.loop-at-smaller
loop-at-smaller c = let t = in-turn (goal.at.loop-at-smaller c).In-loop-at in omega (arith, t.least, t.most, size_is (goal.at.loop-at-smaller c).After-size_at-size, c.loop-at-test.true)

pub loop-at-preserved : goal.loop-at-preserved
loop-at-preserved c =
    let o = rw (size_is (goal.at.loop-at-preserved c).After-size_at-size) at c.put_one-to.ensures in
    rw (size_is (goal.at.loop-at-preserved c).After-size_at-size) (putting_next c.loop-at.invariant c.loop-at-test.true o)

pub shape_of-room : goal.shape_of-room
shape_of-room c = c.loop-at.invariant.long

pub returns : goal.returns
returns c = putting_last c.loop-at.invariant c.loop-at-test.false
