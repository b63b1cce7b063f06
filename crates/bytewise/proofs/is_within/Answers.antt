-- `bytewise::is_within` meets its contract: the two parts are compared as slices. Assumes nothing.
use Rattle.std.proofs.Common.{◌≡◌, ◌+◌, ◌-◌, take, drop, arith, rules}
use Rattle.bytewise.specs.Comparing.{SameIs}
use Rattle.bytewise.proofs.is_within.Goals as goal

pub returns : goal.returns
returns c =
    let a = c.args in
    let d : SameIs (take (a.from + a.n - a.from) (drop a.from a.s.now)) (take (a.at + a.n - a.at) (drop a.at a.t.now)) c.eq.result = record { right = search rules; wrong = search rules } in
    let x : a.from + a.n - a.from ≡ a.n = omega arith in
    let y : a.at + a.n - a.at ≡ a.n = omega arith in
    rw (x, y) at d
