-- `meter::scaled::grown` meets its contract: the product is tested before it is made. Assumes nothing.
use Rattle.meter.proofs.RoundingLaws.{ten_pos, large}
use mir.ValLaws.{to_z-of_z}
use mir.Syntax.{w64}
use native.Mathlib.Nat.{div-lt_iff_lt-mul, le-div_iff_mul-le}
use Prim.Native.Nat.{◌*◌, ◌^◌, ◌<◌}
use native.Mathlib.Omega.{arith}
use mathlib.Core.Path.{◌≡◌, sym, ◌∙◌}
use Rattle.meter.proofs.scaled.grown.Goals as goal

pub nonzero_div-t : goal.nonzero_div-t
nonzero_div-t c = omega (arith, ten_pos c.args.exponent)

pub returns-then-size-t : goal.returns-then-size-t
returns-then-size-t c =
    let a = c.args in
    let t : c.power-t.result ≡ 10 ^ a.exponent = c.power-t.ensures in
    let p : 0 < c.power-t.result = omega (arith, ten_pos a.exponent) in
    let h : 2 ^ 63 < a.size * 10 ^ a.exponent = simp (← t) ((div-lt_iff_lt-mul p).0 c.if-size-t.true) in
    sym (large a.integer (a.size * 10 ^ a.exponent) h)

pub overflow_mul-size : goal.overflow_mul-size
overflow_mul-size c =
    let p : 0 < c.power-t.result = omega (arith, ten_pos c.args.exponent) in
    omega (arith, (le-div_iff_mul-le p).0 c.if-size-t.false)

pub with_sign-requires : goal.with_sign-requires
with_sign-requires c =
    let p : 0 < c.power-t.result = omega (arith, ten_pos c.args.exponent) in
    (le-div_iff_mul-le p).0 c.if-size-t.false

pub returns : goal.returns
returns c =
    let t : c.power-t.result ≡ 10 ^ c.args.exponent = c.power-t.ensures in
    c.with_sign.ensures ∙ simp (to_z-of_z w64 c.args.integer c.ranges.integer, t)
