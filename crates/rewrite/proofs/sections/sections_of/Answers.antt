-- `rewrite::sections::sections_of` meets its contract: what is found is of the records before the next one, up to the first MDR. Assumes nothing.
use Prim.Native.Nat.{◌+◌, ◌≤◌}
use native.Mathlib.Omega.{arith}
use mathlib.Core.Path.{◌≡◌, refl, ◌∙◌}
use lib.ListN.{length}
use Rattle.record.proofs.HeaderLaws.{size_there_lem}
use Rattle.demands.specs.Product.{size}
use Rattle.rewrite.proofs.SectionLaws.{turn_lead, turn_least, turn_most, sections_first, sections_last}
use Rattle.rewrite.proofs.sections.sections_of.Goals as goal
use Rattle.rewrite.proofs.sections.sections_of.Goals.{After-size_at-size}

size_is : (c : After-size_at-size) → c.size_at-size.result ≡ size c.args.s.now c.loop-at.at
size_is c =
    let i = c.loop-at in
    c.size_at-size.ensures ∙ size_there_lem c.args.s.now i.at (omega (arith, (turn_lead i.invariant c.loop-at-test.true refl).come))

most : (c : After-size_at-size) → c.loop-at.at + c.size_at-size.result ≤ length c.args.s.now
most c = turn_most c.loop-at.invariant c.loop-at-test.true (size_is c)

pub loop-at-init : goal.loop-at-init
loop-at-init c = sections_first _ c.requires record { sphr = refl; ipr = refl; global = refl; variable = refl; start = refl; stop = refl }

pub section_one-found-requires : goal.section_one-found-requires
section_one-found-requires c =
    record { sectioning = c.loop-at.invariant; inside = c.loop-at-test.true; sized = size_is c; other = omega (arith, c.if-s-at-gt7.false) }

pub loop-at-smaller : goal.loop-at-smaller
loop-at-smaller c = omega (arith, turn_least c.loop-at.invariant c.loop-at-test.true (size_is (goal.at.loop-at-smaller c).After-size_at-size), most (goal.at.loop-at-smaller c).After-size_at-size)

pub returns : goal.returns
returns c = sections_last c.loop-at.invariant c.loop-at-test.false
