-- `rewrite::survey::survey_one` meets its contract: each way out is one of the turns of SurveyLaws. Assumes nothing.
use Prim.Native.Nat.{ℕ, ◌+◌, ◌≤◌}
use native.Mathlib.Omega.{arith}
use mathlib.Core.Path.{◌≡◌, refl, sym, ap, ◌∙◌}
use mathlib.Core.Bool.{true, false}
use lib.ListN.{length, get_or}
use Rattle.std.proofs.Common.{rules}
use Rattle.demands.specs.Product.{size}
use Rattle.parts.specs.Cut.{window}
use Rattle.parts.specs.CutHeader.{sooner, later}
use Rattle.rewrite.specs.Keeping.{kept_at}
use Rattle.rewrite.proofs.SurveyLaws.{turn_lead, turn_least, turn_most, turn_group, turn_range, turn_none, turn_front, turn_aux, turn_mdr, surveying_at}
use Rattle.rewrite.proofs.survey.survey_one.Goals as goal
use Rattle.rewrite.proofs.survey.survey_one.Goals.{Start, Else-not-is_kept}

least : (c : Start) → 20 ≤ size c.args.s.now c.args.at
least c = turn_least c.requires.surveying c.requires.inside

most : (c : Start) → c.args.at + size c.args.s.now c.args.at ≤ length c.args.s.now
most c = turn_most c.requires.surveying c.requires.inside

kept : (c : Else-not-is_kept) → kept_at (window c.args.first c.args.last) c.args.s.now c.args.at ≡ true
kept c = let t : c.is_kept.result ≡ true = search rules in sym c.is_kept.ensures ∙ t

range : (c : Else-not-is_kept) → (4 ≤ get_or c.args.s.now c.args.at 0) × (get_or c.args.s.now c.args.at 0 ≤ 8)
range c = turn_range c.requires.surveying c.requires.inside (kept c)

pub overflow_add-next-then-class-eq2 : goal.overflow_add-next-then-class-eq2
overflow_add-next-then-class-eq2 c = let p = c.requires in omega (arith, p.surveying.below.front, p.sized, most (goal.at.overflow_add-next-then-class-eq2 c).Start, p.surveying.small)

pub returns-then-class-eq2 : goal.returns-then-class-eq2
returns-then-class-eq2 c =
    let p = c.requires in
    rw p.sized (turn_front p.surveying p.inside _ c.if-class-eq2.true refl refl refl refl refl)

pub is_kept-requires : goal.is_kept-requires
is_kept-requires c = turn_lead c.requires.surveying c.requires.inside

pub returns-then-not-is_kept : goal.returns-then-not-is_kept
returns-then-not-is_kept c =
    let p = c.requires in
    let t : c.is_kept.result ≡ false = search rules in
    rw p.sized (turn_none p.surveying p.inside c.if-class-eq2.false (sym c.is_kept.ensures ∙ t))

pub bounds-s-at-2 : goal.bounds-s-at-2
bounds-s-at-2 c = omega (arith, least (goal.at.bounds-s-at-2 c).Start, most (goal.at.bounds-s-at-2 c).Start)

pub bounds-s-at-3 : goal.bounds-s-at-3
bounds-s-at-3 c = omega (arith, least (goal.at.bounds-s-at-3 c).Start, most (goal.at.bounds-s-at-3 c).Start)

pub slot-requires : goal.slot-requires
slot-requires c = let r = range (goal.at.slot-requires c).Else-not-is_kept in (r.0, r.1, turn_group c.requires.surveying c.requires.inside)

pub bounds-tally-wide : goal.bounds-tally-wide
bounds-tally-wide c = omega (arith, c.wide.ensures, (range (goal.at.bounds-tally-wide c).Else-not-is_kept).1, c.requires.surveying.found.nine)

pub overflow_add-tally-2 : goal.overflow_add-tally-2
overflow_add-tally-2 c =
    let p = c.requires in
    omega (arith, p.surveying.below.each c.wide.result (omega (arith, c.wide.ensures, (range (goal.at.overflow_add-tally-2 c).Else-not-is_kept).1)), p.surveying.small, p.inside)

pub bounds-tally-wide-2 : goal.bounds-tally-wide-2
bounds-tally-wide-2 c = omega (arith, c.wide.ensures, (range (goal.at.bounds-tally-wide-2 c).Else-not-is_kept).1, c.requires.surveying.found.nine)

pub overflow_add-next-2 : goal.overflow_add-next-2
overflow_add-next-2 c = let p = c.requires in omega (arith, p.surveying.below.kept, p.sized, most (goal.at.overflow_add-next-2 c).Start, p.surveying.small)

pub returns-then-class-ne8 : goal.returns-then-class-ne8
returns-then-class-ne8 c =
    let p = c.requires in
    surveying_at c.args.tally.now c.args.at c.args.size _ c.wide.result _ c.note.ensures c.wide.ensures p.sized
    (turn_aux p.surveying p.inside _ c.slot.result (kept (goal.at.returns-then-class-ne8 c).Else-not-is_kept) c.slot.ensures refl
    (ap (λ (x : ℕ). c.args.found.kept + x) p.sized) refl c.if-class-ne8.true refl refl)

pub time_at-requires : goal.time_at-requires
time_at-requires c = omega (arith, (turn_lead c.requires.surveying c.requires.inside).come)

pub time_at-requires-2 : goal.time_at-requires-2
time_at-requires-2 c = omega (arith, (turn_lead c.requires.surveying c.requires.inside).come)

pub returns : goal.returns
returns c =
    let p = c.requires in
    let v = c.args.found in
    surveying_at c.args.tally.now c.args.at c.args.size _ c.wide.result _ c.note.ensures c.wide.ensures p.sized
    (turn_mdr p.surveying p.inside _ c.slot.result (kept (goal.at.returns c).Else-not-is_kept) c.slot.ensures refl
    (ap (λ (x : ℕ). v.kept + x) p.sized) refl c.if-class-ne8.false
    (c.sooner-next.ensures ∙ ap (sooner v.start) c.time_at.ensures)
    (c.later-next.ensures ∙ ap (later v.stop) c.time_at-2.ensures))
