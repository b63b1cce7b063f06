-- `finish::rows_by` meets its contract: the verdict's refusals are handed on, then the profile is asked of the records, then the rows are put. Assumes nothing.
use mathlib.Core.Path.{◌≡◌, refl, subst}
use Rattle.judge.specs.Extent.{Complete, Covered}
use Rattle.finish.specs.Finish.{VerdictIs}
use Rattle.finish.specs.Profile.{AgainstIs}
use Rattle.std.specs.declared.option.Option.TheVariants.{Some, None}
use Rattle.std.specs.declared.result.Result.TheVariants.{Ok, Err}
use Rattle.std.specs.declared.option.Option.{Option}
use Rattle.std.specs.declared.result.Result.{Result}
use Rattle.calendar.specs.declared.Refusal.{Refusal}
use Rattle.std.specs.Prelude.{ℕ}
use Rattle.finish.proofs.Filling.{judged_is, refused_by}
use Rattle.finish.proofs.ProfileLaws.{by_rows, by_place, by_verdict, product_going}
use Rattle.std.proofs.lemmas.Result.{err_from_is_err_and}
use Rattle.std.proofs.Common.{rules}
use Rattle.finish.proofs.rows_by.Goals as goal
use Rattle.finish.proofs.rows_by.Goals.{After-judged, In_ok-count, After-first_against}

told : (c : After-judged) (r : Result ℕ Refusal) → c.judged.result ≡ r → VerdictIs c.args.s.now r
told c r e =
    subst (VerdictIs c.args.s.now) e (judged_is c.args.s.now c.survey-surveyed.result.extent c.judged.result c.judged.ensures c.survey-surveyed.ensures.0)

entire : (c : In_ok-count) → Complete c.args.s.now × Covered c.args.s.now c.in_ok-count.count
entire c = told (goal.at.In_ok-count c).After-judged (Ok c.in_ok-count.count) c.in_ok-count.was

found : (c : After-first_against) (r : Option ℕ) → c.first_against.result ≡ r → AgainstIs c.args.profile.now c.args.s.now r
found c r e = subst (AgainstIs c.args.profile.now c.args.s.now) e c.first_against.ensures

pub returns-in_err-count : goal.returns-in_err-count
returns-in_err-count c =
    let q = err_from_is_err_and c.from_residual.result c.from_residual.ensures.1 in
    let e : c.judged.result ≡ c.from_residual.result = search rules in
    by_verdict c.args.profile.now c.args.s.now _ c.from_residual.result q.0 q.1 (told (goal.at.returns-in_err-count c).After-judged c.from_residual.result e)

pub first_against-requires : goal.first_against-requires
first_against-requires c = let e = entire c in (product_going e.0 e.1, c.survey-surveyed.ensures.2)

pub put_rows-requires : goal.put_rows-requires
put_rows-requires c =
    let e = entire (goal.at.put_rows-requires c).In_ok-count in
    (e.0, e.1, c.survey-surveyed.ensures.1)

pub returns-in-Some : goal.returns-in-Some
returns-in-Some c =
    let e = entire (goal.at.returns-in-Some c).In_ok-count in
    refused_by c.args.profile.now c.args.s.now _ refl (by_place c.args.profile.now _ e.0 e.1 (found (goal.at.returns-in-Some c).After-first_against (Some c.in-Some.place) c.in-Some.is))

pub returns : goal.returns
returns c =
    by_rows c.args.profile.now c.args.s.now _ c.put_rows.result _ (entire (goal.at.returns c).In_ok-count).0 (found (goal.at.returns c).After-first_against None c.in_default.is) c.put_rows.ensures
