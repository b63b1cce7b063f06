-- `meter::scaled::nearest_product` meets its contract: a product is its own nearest, and what is too large stays so. Assumes nothing.
use Rattle.meter.proofs.RoundingLaws.{ten_pos, nearest_product, large}
use mir.ValLaws.{to_z-of_z}
use mir.Syntax.{w64}
use lib.IntN.{nat_abs}
use native.Mathlib.Nat.{div-lt_iff_lt-mul, le-div_iff_mul-le, le-mul_of_pos_right}
use Prim.Native.Nat.{◌*◌, ◌^◌, ◌<◌, ◌≤◌}
use native.Mathlib.Omega.{arith}
use mathlib.Core.Path.{◌≡◌, sym, ap, ◌∙◌}
use Rattle.meter.proofs.scaled.nearest_product.Goals as goal

pub nonzero_div-p : goal.nonzero_div-p
nonzero_div-p c = omega (arith, ten_pos c.args.k)

pub returns-then-m-p : goal.returns-then-m-p
returns-then-m-p c =
    let a = c.args in
    let m : c.unsigned_abs-m.result ≡ nat_abs a.integer = c.unsigned_abs-m.ensures.value ∙ ap nat_abs (to_z-of_z w64 a.integer c.ranges.integer) in
    let t : c.power-p.result ≡ 10 ^ a.k = c.power-p.ensures in
    let p : 0 < c.power-p.result = omega (arith, ten_pos a.k) in
    let h : 2 ^ 63 < nat_abs a.integer * 10 ^ a.k = simp (← m, ← t) ((div-lt_iff_lt-mul p).0 c.if-m-p.true) in
    let g : nat_abs a.integer * 10 ^ a.k ≤ nat_abs a.integer * 10 ^ a.k * 10 ^ a.d = le-mul_of_pos_right _ (ten_pos a.d) in
    let l : 2 ^ 63 < nat_abs a.integer * 10 ^ a.k * 10 ^ a.d = omega arith in
    sym (nearest_product a.integer a.d a.k ∙ large a.integer _ l)

pub overflow_mul-m : goal.overflow_mul-m
overflow_mul-m c =
    let p : 0 < c.power-p.result = omega (arith, ten_pos c.args.k) in
    omega (arith, (le-div_iff_mul-le p).0 c.if-m-p.false)

pub returns : goal.returns
returns c =
    let a = c.args in
    let z = to_z-of_z w64 a.integer c.ranges.integer in
    let m : c.unsigned_abs-m.result ≡ nat_abs a.integer = c.unsigned_abs-m.ensures.value ∙ ap nat_abs z in
    let t : c.power-p.result ≡ 10 ^ a.k = c.power-p.ensures in
    c.grown.ensures ∙ simp (z, m, t) (sym (nearest_product a.integer a.d a.k))
