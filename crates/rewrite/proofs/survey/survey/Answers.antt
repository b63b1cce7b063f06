-- `rewrite::survey::survey` meets its contract: what is found is of the records before the next one. Assumes nothing.
use Prim.Native.Nat.{◌+◌, ◌≤◌}
use native.Mathlib.Omega.{arith}
use mathlib.Core.Path.{◌≡◌, refl, ◌∙◌}
use lib.ListN.{length}
use Rattle.record.proofs.HeaderLaws.{size_there_lem}
use Rattle.demands.specs.Product.{size}
use Rattle.parts.specs.Cut.{window}
use Rattle.rewrite.proofs.SurveyLaws.{turn_least, turn_most, survey_first, survey_last}
use Rattle.rewrite.proofs.survey.survey.Goals as goal
use Rattle.rewrite.proofs.survey.survey.Goals.{In-loop-at, After-size_at-size}

least : (c : In-loop-at) → 20 ≤ size c.args.s.now c.loop-at.at
least c = turn_least c.loop-at.invariant c.loop-at-test.true

most : (c : In-loop-at) → c.loop-at.at + size c.args.s.now c.loop-at.at ≤ length c.args.s.now
most c = turn_most c.loop-at.invariant c.loop-at-test.true

size_is : (c : After-size_at-size) → c.size_at-size.result ≡ size c.args.s.now c.loop-at.at
size_is c = c.size_at-size.ensures ∙ size_there_lem c.args.s.now c.loop-at.at (omega (arith, least (goal.at.After-size_at-size c).In-loop-at, most (goal.at.After-size_at-size c).In-loop-at))

pub loop-at-init : goal.loop-at-init
loop-at-init c =
    survey_first (window c.args.first c.args.last) _ c.requires refl refl refl refl refl

pub survey_one-found-requires : goal.survey_one-found-requires
survey_one-found-requires c = record { surveying = c.loop-at.invariant; inside = c.loop-at-test.true; sized = size_is (goal.at.survey_one-found-requires c).After-size_at-size }

pub loop-at-smaller : goal.loop-at-smaller
loop-at-smaller c = omega (arith, least (goal.at.loop-at-smaller c).In-loop-at, most (goal.at.loop-at-smaller c).In-loop-at, size_is (goal.at.loop-at-smaller c).After-size_at-size, c.loop-at-test.true)

pub returns : goal.returns
returns c = survey_last c.loop-at.invariant c.loop-at-test.false
