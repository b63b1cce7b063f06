-- `meter::scaled::round_to` meets its contract: the decimals kept are at most 15. Assumes nothing.
use Rattle.std.proofs.Common.{◌≡◌, ◌≤◌, true, arith, rules, nat_abs}
use Rattle.meter.specs.Rounding.{is_decimals}
use Rattle.meter.proofs.ScaledLaws.{decimals_small}
use Rattle.meter.proofs.scaled.round_to.Goals as goal

pub nearest-requires : goal.nearest-requires
nearest-requires c =
    let d : is_decimals c.args.decimals ≡ true = search rules in
    let s : nat_abs c.args.decimals ≤ 15 = decimals_small _ d in
    let e : c.exponent_of.result ≡ nat_abs c.args.decimals = search rules in
    (search rules, omega (arith, e, s))
