-- `meter::scaled::show_quotient` meets its contract: the size, then one division. Assumes nothing.
use Rattle.meter.proofs.ReadingLaws.{in_float_lem, ten_small}
use Rattle.meter.proofs.RoundingLaws.{ten_pos}
use Rattle.meter.specs.declared.scaled.Reading.TheVariants as M
use Rattle.calendar.specs.Said.{answer}
use lib.Ieee.{binary64, in_float, Float, div, of_int}
use mir.Val.{SFits, to_z, of_z}
use mir.ValLaws.{to_z-of_z}
use mir.Syntax.{w64}
use lib.IntN.{ℤ, pos, nat_abs}
use lib.Dec.{T, eqb}
use Prim.Native.Nat.{ℕ, ◌^◌, ◌%◌, ◌≤◌}
use native.Mathlib.Omega.{arith}
use borrow.Author.Tests.{le-leb, lt-leb, eq-eqb, ne_eqb}
use mathlib.Core.Bool.{true, false}
use mathlib.Core.Path.{◌≡◌, sym, ap, ◌∙◌, subst}
use Rattle.meter.proofs.scaled.show_quotient.Goals as goal

-- the division as the machine has it
divides : (i : ℤ) (s p : ℕ) → SFits w64 i → p ≡ 10 ^ s → div binary64 (of_int binary64 (to_z w64 (of_z w64 i))) (of_int binary64 (pos p)) ≡ div binary64 (of_int binary64 i) (of_int binary64 (pos (10 ^ s)))
divides i s p f t =
    ap (λ (y : ℤ). div binary64 (of_int binary64 y) (of_int binary64 (pos p))) (to_z-of_z w64 i f)
    ∙ ap (λ (k : ℕ). div binary64 (of_int binary64 i) (of_int binary64 (pos k))) t

pub returns-then-m-gt9007199254740992 : goal.returns-then-m-gt9007199254740992
returns-then-m-gt9007199254740992 c =
    let i = c.args.integer in
    let m : c.unsigned_abs-m.result ≡ nat_abs i = c.unsigned_abs-m.ensures.value ∙ ap nat_abs (to_z-of_z w64 i c.ranges.integer) in
    sym (simp (lt-leb (nat_abs i) (2 ^ 53) (omega arith)))

pub int_to_float-q : goal.int_to_float-q
int_to_float-q c =
    let i = c.args.integer in
    let z = to_z-of_z w64 i c.ranges.integer in
    let m : c.unsigned_abs-m.result ≡ nat_abs i = c.unsigned_abs-m.ensures.value ∙ ap nat_abs z in
    subst (λ (y : ℤ). T (in_float binary64 y)) (sym z) (in_float_lem i (omega arith))

pub int_to_float-q-2 : goal.int_to_float-q-2
int_to_float-q-2 c =
    in_float_lem (pos c.power-p.result) (omega (arith, c.power-p.ensures, ten_small c.args.s c.requires))

pub nonzero_rem-m : goal.nonzero_rem-m
nonzero_rem-m c = omega (arith, c.power-p.ensures, ten_pos c.args.s)

pub returns-then-m-p-eq0 : goal.returns-then-m-p-eq0
returns-then-m-p-eq0 c =
    let i = c.args.integer in
    let z = to_z-of_z w64 i c.ranges.integer in
    let m : c.unsigned_abs-m.result ≡ nat_abs i = c.unsigned_abs-m.ensures.value ∙ ap nat_abs z in
    let p : c.power-p.result ≡ 10 ^ c.args.s = c.power-p.ensures in
    let h : nat_abs i ≤ 2 ^ 53 = omega arith in
    let q : eqb (nat_abs i % 10 ^ c.args.s) 0 ≡ true = simp (← m, ← p) (eq-eqb _ _ c.if-m-p-eq0.true) in
    ap (λ (x : Float). answer (M.Whole x)) (divides i c.args.s _ c.ranges.integer p) ∙ sym (simp (le-leb (nat_abs i) (2 ^ 53) h, q))

pub returns-else-m-p-eq0 : goal.returns-else-m-p-eq0
returns-else-m-p-eq0 c =
    let i = c.args.integer in
    let z = to_z-of_z w64 i c.ranges.integer in
    let m : c.unsigned_abs-m.result ≡ nat_abs i = c.unsigned_abs-m.ensures.value ∙ ap nat_abs z in
    let p : c.power-p.result ≡ 10 ^ c.args.s = c.power-p.ensures in
    let h : nat_abs i ≤ 2 ^ 53 = omega arith in
    let q : eqb (nat_abs i % 10 ^ c.args.s) 0 ≡ false = simp (← m, ← p) (ne_eqb _ _ c.if-m-p-eq0.false) in
    ap (λ (x : Float). answer (M.Between x)) (divides i c.args.s _ c.ranges.integer p) ∙ sym (simp (le-leb (nat_abs i) (2 ^ 53) h, q))
