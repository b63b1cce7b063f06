-- `query::ground_point` meets its contract: the two fields are there, so their numbers or one refusal of both come. Assumes nothing.
use mathlib.Core.Path.{◌≡◌}
use Rattle.std.proofs.Common.{rules}
use Rattle.std.proofs.lemmas.Result.{err_from_is_err_and}
use Rattle.std.specs.declared.result.Result.TheVariants.{Err}
use Rattle.query.proofs.QueryLaws.{number_is_exact, denied_both}
use Rattle.query.proofs.ground_point.Goals as goal

pub point_of-requires : goal.point_of-requires
point_of-requires c =
    let y = rw c.in_ok-latitude.was at c.number_field.ensures in
    let x = rw c.in_ok-longitude.was at c.number_field-2.ensures in
    (number_is_exact y, number_is_exact x)

pub returns-in_err-longitude : goal.returns-in_err-longitude
returns-in_err-longitude c =
    let q = err_from_is_err_and c.from_residual-in_err-longitude.result c.from_residual-in_err-longitude.ensures.1 in
    let e : c.number_field-2.result ≡ Err q.0 = search rules in
    let n = rw (e, c.latitude_of-k.ensures) at c.number_field-2.ensures in
    rw q.1 (denied_both c.args.end n)
