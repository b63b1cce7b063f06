-- `meter::scaled::nearest_quotient` meets its contract: one power of ten cancels the other. Assumes nothing.
use Rattle.meter.proofs.RoundingLaws.{ten_pos, ten_up, near_scaled, near_cancels, near_half}
use Rattle.meter.proofs.Signs.{size_small}
use Rattle.meter.specs.Rounding.{signed_of}
use mir.ValLaws.{to_z-of_z}
use mir.Syntax.{w64}
use lib.IntN.{nat_abs}
use Prim.Native.Nat.{◌-◌, ◌^◌, ◌≤◌}
use native.Mathlib.Omega.{arith}
use mathlib.Core.Path.{◌≡◌, sym, ap, ◌∙◌}
use Rattle.meter.proofs.scaled.nearest_quotient.Goals as goal

pub returns-then-s-d : goal.returns-then-s-d
returns-then-s-d c =
    let a = c.args in
    let z = to_z-of_z w64 a.integer c.ranges.integer in
    let m : c.unsigned_abs-m.result ≡ nat_abs a.integer = c.unsigned_abs-m.ensures.value ∙ ap nat_abs z in
    c.grown.ensures ∙ simp (z, m) (sym (ap (signed_of a.integer) (near_scaled (nat_abs a.integer) a.d a.s c.if-s-d.true)))

pub near_to-requires : goal.near_to-requires
near_to-requires c =
    let a = c.args in
    let m : c.unsigned_abs-m.result ≡ nat_abs a.integer = c.unsigned_abs-m.ensures.value ∙ ap nat_abs (to_z-of_z w64 a.integer c.ranges.integer) in
    (omega (arith, ten_pos (a.s - a.d)), omega (arith, size_small a.integer c.ranges.integer))

pub with_sign-requires : goal.with_sign-requires
with_sign-requires c =
    let a = c.args in
    let m : c.unsigned_abs-m.result ≡ nat_abs a.integer = c.unsigned_abs-m.ensures.value ∙ ap nat_abs (to_z-of_z w64 a.integer c.ranges.integer) in
    omega (
      arith,
      size_small a.integer c.ranges.integer,
      c.near_to.ensures,
      near_half c.unsigned_abs-m.result c.power-p.result (omega (arith, ten_up (a.s - a.d) (omega arith))),
    )

pub returns : goal.returns
returns c =
    let a = c.args in
    let z = to_z-of_z w64 a.integer c.ranges.integer in
    let m : c.unsigned_abs-m.result ≡ nat_abs a.integer = c.unsigned_abs-m.ensures.value ∙ ap nat_abs z in
    let t : c.power-p.result ≡ 10 ^ (a.s - a.d) = c.power-p.ensures in
    let h : a.d ≤ a.s = omega arith in
    c.with_sign.ensures ∙ simp (z, c.near_to.ensures, m, t) (sym (ap (signed_of a.integer) (near_cancels (nat_abs a.integer) a.d a.s h)))
