-- `listing::list_product` meets its contract: 23 first; then a refusal of the arrival, or 17 for a part of a product; what is entire is listed.
-- Assumes nothing.
use mathlib.Core.Path.{◌≡◌, refl}
use Rattle.std.proofs.Common.{rules}
use Rattle.std.proofs.lemmas.Result.{err_from_is_err_and}
use Rattle.std.specs.declared.result.Result.TheVariants.{Ok, Err}
use Rattle.std.specs.declared.option.Option.TheVariants.{None}
use Rattle.listing.specs.Listing.{too_large, faulty, short}
use Rattle.listing.proofs.list_product.Goals as goal

pub returns-then-bytes-gt-MOST : goal.returns-then-bytes-gt-MOST
returns-then-bytes-gt-MOST c = (too_large c.if-bytes-gt-MOST.true, refl)

pub returns-in_err-count : goal.returns-in_err-count
returns-in_err-count c =
    let q = err_from_is_err_and c.from_residual.result c.from_residual.ensures.1 in
    let e : c.judge_extent.result ≡ Err q.0 = search rules in
    let g = rw e at c.judge_extent.ensures in
    rw q.1 (faulty c.if-bytes-gt-MOST.false g, refl)

pub returns-in_default : goal.returns-in_default
returns-in_default c =
    let e : c.judge_extent.result ≡ Ok None = search rules in
    let p = rw e at c.judge_extent.ensures in
    (short c.if-bytes-gt-MOST.false p.0 p.1, refl)
