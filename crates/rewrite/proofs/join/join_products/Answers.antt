-- `rewrite::join::join_products` meets its contract: 26, 27 and the sums, then what is matched. Assumes nothing.
use mathlib.Core.Path.{◌≡◌, sym, ◌∙◌}
use mathlib.Core.Bool.{Bool, true, false, true≢false}
use Rattle.std.proofs.Common.{rules}
use Rattle.parts.specs.Pass.{is_late}
use Rattle.rewrite.specs.Joining.{Sections2}
use Rattle.rewrite.proofs.JoinPlanLaws.{sectionable, two_sections, two_headers, says_unlike, says_late, says_sums, late_is}
use Rattle.rewrite.proofs.join.join_products.Goals as goal
use Rattle.rewrite.proofs.join.join_products.Goals.{After-sections_of-g, After-is_late}

sections : (c : After-sections_of-g) → Sections2 c.args.first.now c.args.second.now c.sections_of-f.result c.sections_of-g.result
sections c = two_sections c.requires c.sections_of-f.ensures c.sections_of-g.ensures

pub sections_of-f-requires : goal.sections_of-f-requires
sections_of-f-requires c = sectionable c.requires.first

pub sections_of-g-requires : goal.sections_of-g-requires
sections_of-g-requires c = sectionable c.requires.second

pub is_alike-requires : goal.is_alike-requires
is_alike-requires c = sections c

pub returns-then-not-is_alike : goal.returns-then-not-is_alike
returns-then-not-is_alike c =
    says_unlike c.requires c.is_alike.ensures (search rules)

alike : (c : After-is_late) → c.is_alike.result ≡ true
alike c = search rules

late : (c : After-is_late) (r : Bool) → c.is_late.result ≡ r → is_late c.args.same c.sections_of-f.result.stop c.sections_of-g.result.start ≡ r
late c r e = sym c.is_late.ensures ∙ e

pub returns-then-is_late : goal.returns-then-is_late
returns-then-is_late c =
    says_late (sections (goal.at.returns-then-is_late c).After-sections_of-g).two c.is_alike.ensures (alike (goal.at.returns-then-is_late c).After-is_late) (λ i. true≢false (sym (late_is c.args.same (sections (goal.at.returns-then-is_late c).After-sections_of-g) (late (goal.at.returns-then-is_late c).After-is_late true c.if-is_late.true)) ∙ i))

pub slice_bounds-sums_fit-end : goal.slice_bounds-sums_fit-end
slice_bounds-sums_fit-end c = sym (two_headers c.requires).first_long

pub slice_bounds-sums_fit-end-2 : goal.slice_bounds-sums_fit-end-2
slice_bounds-sums_fit-end-2 c = sym (two_headers c.requires).second_long

pub sums_fit-requires : goal.sums_fit-requires
sums_fit-requires c = two_headers c.requires

pub returns-then-not-sums_fit : goal.returns-then-not-sums_fit
returns-then-not-sums_fit c =
    says_sums (sections (goal.at.returns-then-not-sums_fit c).After-sections_of-g).two c.is_alike.ensures (alike (goal.at.returns-then-not-sums_fit c).After-is_late) (late_is c.args.same (sections (goal.at.returns-then-not-sums_fit c).After-sections_of-g) (late (goal.at.returns-then-not-sums_fit c).After-is_late false c.if-is_late.false)) c.sums_fit.ensures (search rules)

pub join_matched-requires : goal.join_matched-requires
join_matched-requires c =
    record { found = sections (goal.at.join_matched-requires c).After-sections_of-g; sums = c.sums_fit.ensures.right (search rules) }

pub returns : goal.returns
returns c =
    let n = sections (goal.at.returns c).After-sections_of-g in
    let i = c.args.same in
    c.join_matched.ensures i n.two ((c.is_alike.ensures n.two).right (alike (goal.at.returns c).After-is_late)) (late_is i n (late (goal.at.returns c).After-is_late false c.if-is_late.false))
