-- `meter::scaled::show_product` meets its contract: the product is tested before it is made, and converted once. Assumes nothing.
use Rattle.meter.proofs.ReadingLaws.{in_float_lem, ten_small, product_whole}
use Rattle.meter.proofs.RoundingLaws.{ten_pos}
use Rattle.meter.proofs.Signs.{size_times, small_fits}
use Rattle.meter.specs.declared.scaled.Reading.TheVariants as M
use Rattle.calendar.specs.Said.{answer}
use lib.Ieee.{binary64, in_float, of_int}
use mir.Val.{SFits, to_z, of_z}
use mir.ValLaws.{to_z-of_z, to_z_pos}
use mir.Syntax.{w64}
use lib.IntN.{ℤ, pos, nat_abs, ◌*ℤ◌}
use lib.Dec.{T}
use native.Mathlib.Nat.{div-lt_iff_lt-mul, le-div_iff_mul-le}
use Prim.Native.Nat.{ℕ, ◌*◌, ◌/◌, ◌^◌, ◌≤◌, ◌<◌}
use native.Mathlib.Omega.{arith}
use borrow.Author.Tests.{le-leb, lt-leb}
use mathlib.Core.Path.{◌≡◌, sym, ap, ◌∙◌, subst}
use Rattle.meter.proofs.scaled.show_product.Goals as goal

-- the product as the machine has it, of an integer i and a power p = 10 ^ k
module _ (i : ℤ) (f : SFits w64 i) (k p m : ℕ) (l : k ≤ 15) (t : p ≡ 10 ^ k) (e : m ≡ nat_abs (to_z w64 (of_z w64 i))) where
  size_is : nat_abs (i *ℤ pos (10 ^ k)) ≡ m * p
  size_is = size_times i (10 ^ k) ∙ rw (e, to_z-of_z w64 i f, t)

  power_pos : 0 < p
  power_pos = omega (arith, ten_pos k)

  over : 2 ^ 53 / p < m → 2 ^ 53 < nat_abs (i *ℤ pos (10 ^ k))
  over h = omega (arith, size_is, (div-lt_iff_lt-mul power_pos).0 h)

  within : m ≤ 2 ^ 53 / p → nat_abs (i *ℤ pos (10 ^ k)) ≤ 2 ^ 53
  within h = omega (arith, size_is, (le-div_iff_mul-le power_pos).0 h)

  made : to_z w64 (of_z w64 i) *ℤ to_z w64 p ≡ i *ℤ pos (10 ^ k)
  made =
      let s : p < 2 ^ 63 = omega (arith, ten_small k l) in
      ap (λ (y : ℤ). y *ℤ to_z w64 p) (to_z-of_z w64 i f) ∙ ap (λ (y : ℤ). i *ℤ y) (to_z_pos w64 p s ∙ ap pos t)

  made-fits : m ≤ 2 ^ 53 / p → SFits w64 (to_z w64 (of_z w64 i) *ℤ to_z w64 p)
  made-fits h = subst (λ (y : ℤ). SFits w64 y) (sym made) (small_fits (i *ℤ pos (10 ^ k)) (omega (arith, within h)))

  made-back : m ≤ 2 ^ 53 / p → to_z w64 (of_z w64 (to_z w64 (of_z w64 i) *ℤ to_z w64 p)) ≡ i *ℤ pos (10 ^ k)
  made-back h = to_z-of_z w64 (to_z w64 (of_z w64 i) *ℤ to_z w64 p) (made-fits h) ∙ made

pub nonzero_div-p : goal.nonzero_div-p
nonzero_div-p c = omega (arith, ten_pos c.args.k)

pub returns-then-unsigned_abs-p : goal.returns-then-unsigned_abs-p
returns-then-unsigned_abs-p c =
    let a = c.args in
    let h = over a.integer c.ranges.integer a.k c.power-p.result c.unsigned_abs.result c.requires c.power-p.ensures c.unsigned_abs.ensures.value c.if-unsigned_abs-p.true in
    sym (simp (lt-leb (nat_abs (a.integer *ℤ pos (10 ^ a.k))) (2 ^ 53) h))

pub overflow_cast-product : goal.overflow_cast-product
overflow_cast-product c = record { sfits = omega (arith, ten_small c.args.k c.requires) }

pub overflow_mul-product : goal.overflow_mul-product
overflow_mul-product c =
    made-fits c.args.integer c.ranges.integer c.args.k c.power-p.result c.unsigned_abs.result c.requires c.power-p.ensures c.unsigned_abs.ensures.value c.if-unsigned_abs-p.false

pub int_to_float-result : goal.int_to_float-result
int_to_float-result c =
    let a = c.args in
    let b = c.power-p in
    let m = c.unsigned_abs in
    let h = within a.integer c.ranges.integer a.k b.result m.result c.requires b.ensures m.ensures.value c.if-unsigned_abs-p.false in
    subst (λ (y : ℤ). T (in_float binary64 y)) (sym (made-back a.integer c.ranges.integer a.k b.result m.result c.requires b.ensures m.ensures.value c.if-unsigned_abs-p.false)) (in_float_lem (a.integer *ℤ pos (10 ^ a.k)) h)

pub returns : goal.returns
returns c =
    let a = c.args in
    let b = c.power-p in
    let m = c.unsigned_abs in
    let h = within a.integer c.ranges.integer a.k b.result m.result c.requires b.ensures m.ensures.value c.if-unsigned_abs-p.false in
    ap (λ (y : ℤ). answer (M.Whole (of_int binary64 y))) (made-back a.integer c.ranges.integer a.k b.result m.result c.requires b.ensures m.ensures.value c.if-unsigned_abs-p.false)
    ∙ sym (simp (le-leb (nat_abs (a.integer *ℤ pos (10 ^ a.k))) (2 ^ 53) h, product_whole a.integer a.k))
