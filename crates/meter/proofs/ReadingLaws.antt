-- The laws of the meter's reading, for the number that I and s stand for: the f64 is the exact fraction, rounded once; where the number is whole it
-- is the conversion of that whole number; and a product is whole. By the kit's account of IEEE division and conversion. Assumes nothing.
use mathlib.Core.Path.{◌≡◌, refl, sym, ap, ◌∙◌, subst}
use mathlib.Core.Bool.{Bool, true, false, cond, true≢false}
use Prim.Native.Nat.{ℕ, zero, suc, ◌*◌, ◌/◌, ◌%◌, ◌^◌, ◌≤◌, ◌<◌}
use native.Mathlib.Nat.{mul-one, mul_comm, mul_assoc, mul_left_comm, mul-pos, div-mul_cancel, dvd_of_mod-eq-zero, pow-le-pow_right, zero-mul, div-one, mod-one}
use native.Mathlib.Omega.{arith}
use borrow.Author.Tests.{ne_eqb, eq-eqb, eqb-true, ltb-true, leb-true}
use lib.Dec.{T, lt→ltb, le→leb, lit<, eqb, leb}
use lib.IntN.{ℤ, pos, negsuc, neg_ℤ, nat_abs}
use lib.Signed.{lt_z, quot_z}
use lib.Ieee.{Float, nan, inf, fin, Format, binary64, up, down, unlike, in_float, of_int, div, round}
use lib.Ieee.Fits.{down_pos}
use lib.Ieee.Exact.{HasValue}
use lib.Ieee.Back.{round_whole}
use lib.Ieee.Scale.{round_same}
use Rattle.calendar.specs.Said.{Said, answer, refusal}
use Rattle.meter.specs.Scaled.{is_scale, divided, multiplied, stands_for}
use Rattle.meter.specs.Reading.{quotient, converted, carried, is_whole, whole_of, shown_as, reading_of, ExactCase}
use Rattle.std.specs.declared.option.Option.{Option}
use Rattle.std.specs.declared.result.Result.{Result}
use Rattle.calendar.specs.declared.Refusal.{Refusal}
use Rattle.meter.specs.declared.scaled.Scaled.{Scaled}
use Rattle.meter.specs.Numeral as S
use Rattle.calendar.specs.Said.{said}
use Rattle.meter.specs.declared.scaled.Reading.{Reading}
use Rattle.meter.specs.declared.scaled.Reading.TheVariants as M
use Rattle.meter.proofs.ScaledLaws.{scale_small}
use Rattle.meter.proofs.RoundingLaws.{ten_pos}

-- a whole number of at most 2 ^ 53 either way is a value of binary64
pub in_float_lem : (z : ℤ) → nat_abs z ≤ 2 ^ 53 → T (in_float binary64 z)
unfolding in_float
in_float_lem (pos n) h = le→leb n (2 ^ 53) h
in_float_lem (negsuc n) h = lt→ltb n (2 ^ 53) h

cross : (A N a b D E : ℕ) → A * 1 ≡ a * E → N * 1 ≡ b * D → A * D * b ≡ a * (N * E)
cross A N a b D E h k =
    let e : A ≡ a * E = sym (mul-one A) ∙ h in
    let g : N ≡ b * D = sym (mul-one N) ∙ k in
    rw (e, g) (simp (mul_assoc, mul_comm, mul_left_comm))

unlike_false : (s : Bool) → unlike s false ≡ s
unlike_false true = refl
unlike_false false = refl

-- the quotient of two floats that are whole numbers is the exact fraction, rounded once
div_whole : (f : Format) (x y : Float) (s : Bool) (a b : ℕ) → HasValue x s a 1 → HasValue y false b 1 → 0 < b → div f x y ≡ round f s a b
unfolding div
div_whole f nan y s a b v w p = absurd v
div_whole f (inf t) y s a b v w p = absurd v
div_whole f (fin t m e) nan s a b v w p = absurd w
div_whole f (fin t m e) (inf r) s a b v w p = absurd w
div_whole f (fin t m e) (fin r n d) s a b v w p =
    let N = n * up d in
    let B : N ≡ b * down d = sym (mul-one N) ∙ w.1 in
    let np : 0 < N = subst (λ (k : ℕ). 0 < k) (sym B) (mul-pos p (down_pos d)) in
    let nz : eqb n 0 ≡ false = ne_eqb n 0 (λ e. absurd (omega (arith, np, ap (λ (k : ℕ). k * up d) e ∙ zero-mul (up d)))) in
    rw (nz, v.0, w.0, unlike_false s)
    (round_same f s (m * up e * down d) (N * down e) a b (mul-pos np (down_pos e)) p (cross (m * up e) N a b (down d) (down e) v.1 w.1))

-- the sign that a whole number has as a float
abbrev pub minus? : ℤ → Bool
minus? (pos n) = false
minus? (negsuc n) = true

of_int_value : (z : ℤ) → nat_abs z ≤ 2 ^ 53 → HasValue (of_int binary64 z) (minus? z) (nat_abs z) 1
unfolding of_int
of_int_value (pos n) h = round_whole binary64 false n h
of_int_value (negsuc n) h = round_whole binary64 true (suc n) h

pub ten_small : (s : ℕ) → s ≤ 15 → 10 ^ s ≤ 2 ^ 53
ten_small s h = omega (arith, pow-le-pow_right {n = 10} (lit< tt) {i = s} {j = 15} h)

-- ---- the quotient
quotient_rounded : (i : ℤ) (s : ℕ) → nat_abs i ≤ 2 ^ 53 → s ≤ 15 → quotient i s ≡ round binary64 (minus? i) (nat_abs i) (10 ^ s)
quotient_rounded i s h k =
    div_whole binary64 (of_int binary64 i) (of_int binary64 (pos (10 ^ s))) (minus? i) (nat_abs i) (10 ^ s) (of_int_value i h)
    (of_int_value (pos (10 ^ s)) (ten_small s k)) (ten_pos s)

exact : (i : ℤ) (s : ℕ) → nat_abs i ≤ 2 ^ 53 → s ≤ 15 → nat_abs i % 10 ^ s ≡ 0 → quotient i s ≡ round binary64 (minus? i) (nat_abs i / 10 ^ s) 1
exact i s h k e =
    quotient_rounded i s h k
    ∙ round_same binary64 (minus? i) (nat_abs i) (10 ^ s) (nat_abs i / 10 ^ s) 1 (ten_pos s) (lit< tt)
    (mul-one (nat_abs i) ∙ sym (div-mul_cancel (10 ^ s) (dvd_of_mod-eq-zero (10 ^ s) e)))

whole_int : (i : ℤ) (p : ℕ) → nat_abs i / p * p ≡ nat_abs i → round binary64 (minus? i) (nat_abs i / p) 1 ≡ of_int binary64 (quot_z i (pos p))
unfolding of_int
whole_int (pos n) p e = refl
whole_int (negsuc n) p e = go (suc n / p) e
  where
    go : (q : ℕ) → q * p ≡ suc n → round binary64 true q 1 ≡ of_int binary64 (neg_ℤ (pos q))
    go zero h = absurd (omega (arith, sym (zero-mul p) ∙ h))
    go (suc q) h = refl

quotient_exact : (i : ℤ) (s : ℕ) → nat_abs i ≤ 2 ^ 53 → s ≤ 15 → nat_abs i % 10 ^ s ≡ 0 → quotient i s ≡ of_int binary64 (quot_z i (pos (10 ^ s)))
quotient_exact i s h k e = exact i s h k e ∙ whole_int i (10 ^ s) (div-mul_cancel (10 ^ s) (dvd_of_mod-eq-zero (10 ^ s) e))

-- ---- the product
converted_rounded : (i : ℤ) (k : ℕ) → converted i k ≡ round binary64 (minus? i) (nat_abs (multiplied i k).above) 1
unfolding of_int
converted_rounded (pos n) k = refl
converted_rounded (negsuc n) k = go (suc n * 10 ^ k) (mul-pos {m = suc n} (omega arith) (ten_pos k))
  where
    go : (m : ℕ) → 0 < m → of_int binary64 (neg_ℤ (pos m)) ≡ round binary64 true (nat_abs (neg_ℤ (pos m))) 1
    go zero l = absurd (omega arith)
    go (suc m) l = refl

over_one : (z : ℤ) → quot_z z (pos 1) ≡ z
over_one (pos n) = ap pos (div-one n)
over_one (negsuc n) = ap (λ (k : ℕ). neg_ℤ (pos k)) (div-one (suc n))

-- WHOLE: a product is
pub product_whole : (i : ℤ) (k : ℕ) → is_whole (multiplied i k) ≡ true
product_whole i k = eq-eqb (nat_abs (multiplied i k).above % 1) 0 (mod-one (nat_abs (multiplied i k).above))

-- ---- THE NUMBER that I and s stand for, for either sign of s
-- ONE ROUNDING of the exact fraction
pub one_rounding : (i s : ℤ) → is_scale s ≡ true → nat_abs (stands_for i s).above ≤ 2 ^ 53 → carried i s ≡ round binary64 (minus? i) (nat_abs (stands_for i s).above) (stands_for i s).below
one_rounding i (pos s) e h = quotient_rounded i s h (scale_small (pos s) e)
one_rounding i (negsuc s) e h = converted_rounded i (suc s)

-- THE EXACT CASE: where the number is whole, the f64 is the float of that whole number, with its sign
pub exact_case : (i s : ℤ) → is_scale s ≡ true → nat_abs (stands_for i s).above ≤ 2 ^ 53 → is_whole (stands_for i s) ≡ true → carried i s ≡ of_int binary64 (whole_of (stands_for i s))
exact_case i (pos s) e h w = quotient_exact i s h (scale_small (pos s) e) (eqb-true (nat_abs i % 10 ^ s) 0 w)
exact_case i (negsuc s) e h w = ap (of_int binary64) (sym (over_one (multiplied i (suc s)).above))

-- ---- by the sign of s
pub shown_below : (i s : ℤ) → lt_z s (pos 0) ≡ true → shown_as (multiplied i (nat_abs s)) (converted i (nat_abs s)) ≡ shown_as (stands_for i s) (carried i s)
shown_below i (pos s) t = absurd (omega (arith, ltb-true s 0 t))
shown_below i (negsuc s) t = refl

pub shown_above : (i s : ℤ) → lt_z s (pos 0) ≡ false → shown_as (divided i (nat_abs s)) (quotient i (nat_abs s)) ≡ shown_as (stands_for i s) (carried i s)
shown_above i (pos s) t = refl
shown_above i (negsuc s) t = absurd (true≢false t)

-- ---- THE EXACT CASE of what is answered
whole_shown : (b c : Bool) (v w : Float) → answer (M.Whole w) ≡ cond b (answer (cond c (M.Whole v) (M.Between v))) (refusal 21 0) → (b ≡ true) × (c ≡ true) × (w ≡ v)
whole_shown true true v w e = (refl, refl, cc)
whole_shown true false v w e = let z : ◌≡◌ {A = ℕ} 0 1 = cc in absurd (omega arith)
whole_shown false c v w e = let z : ◌≡◌ {A = ℕ} 0 1 = cc in absurd (omega arith)

scale_shown : (b : Bool) {x : Said Reading} {w : Float} → answer (M.Whole w) ≡ cond b x (refusal 21 0) → (b ≡ true) × (answer (M.Whole w) ≡ x)
scale_shown true e = (refl, e)
scale_shown false e = let z : ◌≡◌ {A = ℕ} 0 1 = cc in absurd (omega arith)

exact_shown : (i s : ℤ) (v : Float) → answer (M.Whole v) ≡ reading_of (S.Number i s) → v ≡ of_int binary64 (whole_of (stands_for i s))
exact_shown i s v e =
    let p = scale_shown (is_scale s) e in
    let x = stands_for i s in
    let q = whole_shown (leb (nat_abs x.above) 0x20_0000_0000_0000) (is_whole x) (carried i s) v p.1 in
    q.2 ∙ exact_case i s p.0 (leb-true (nat_abs x.above) 0x20_0000_0000_0000 q.0) q.1

pub exact_of : (x : Option Scaled) (r : Result Reading Refusal) → said r ≡ reading_of x → ExactCase x r
exact_of x r e = record { exact = λ f g. exact_shown _ _ _ (sym (ap said g) ∙ e ∙ ap reading_of f) }
