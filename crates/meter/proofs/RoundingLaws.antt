-- The laws of rounding: the powers of ten cancel, the code's tests are the definition's, and WHAT NEAREST MEANS, for the number that I and s stand
-- for: twice the distance is at most the divisor, at a tie the larger is taken, and no other number does that; a product is its own nearest. By
-- the quotient's bounds. Assumes nothing.
use mathlib.Core.Path.{◌≡◌, refl, sym, ap, ◌∙◌}
use mathlib.Core.Bool.{true, false, true≢false}
use Prim.Native.Nat.{ℕ, zero, suc, ◌+◌, ◌-◌, ◌*◌, ◌/◌, ◌%◌, ◌^◌, ◌≤◌, ◌<◌}
use native.Mathlib.Nat.{mul-one, one-mul, mul_assoc, mul_left_comm, add-mul, mod-lt, div-add-mod', div-eq_of_lt-le, mul-div-mul_right, one-le-pow, pow-le-pow_right, div-le_of_le-mul, mul-le-mul_right, mul-add, mul-pos}
use native.Mathlib.Omega.{arith}
use borrow.Author.Tests.{lt-ltb, le-ltb, ltb-true}
use lib.Dec.{lit<}
use lib.IntN.{ℤ, pos, negsuc, neg_ℤ, nat_abs, ◌*ℤ◌}
use lib.Pow.{pow-add}
use lib.Signed.{lt_z}
use Rattle.calendar.specs.Said.{answer, refusal}
use Rattle.meter.specs.Scaled.{divided, multiplied, stands_for}
use Rattle.meter.specs.Rounding.{near, with_sign, whole64, signed_of, nearest_to, IsNearest}
use Rattle.std.specs.declared.option.Option.TheVariants.{Some}
use Rattle.meter.proofs.Signs.{size_times}

two : (q p : ℕ) → q * (2 * p) ≡ 2 * (q * p)
two q p = mul_left_comm q 2 p

more : (q p : ℕ) → (q + 1) * (2 * p) ≡ 2 * (q * p) + 2 * p
more q p = add-mul q 1 (2 * p) ∙ omega (arith, two q p, one-mul (2 * p))

-- NO OTHER: the number k with 2k·b within b of 2a, a tie upwards, is near a b
pub near_only : (a b k : ℕ) → 2 * (k * b) ≤ 2 * a + b → 2 * a < 2 * (k * b) + b → near a b ≡ k
unfolding near
near_only a b k h l = div-eq_of_lt-le (2 * b) {m = 2 * a + b} (omega (arith, two k b, h)) (omega (arith, more k b, l))

-- WHAT IT MEANS: near a b times b is within half of b from a, and above a at a tie
pub near_low : (a b : ℕ) → 0 < b → 2 * (near a b * b) ≤ 2 * a + b
unfolding near
near_low a b h = omega (arith, two (near a b) b, div-add-mod' (2 * a + b) (2 * b))

pub near_high : (a b : ℕ) → 0 < b → 2 * a < 2 * (near a b * b) + b
unfolding near
near_high a b h = omega (arith, two (near a b) b, div-add-mod' (2 * a + b) (2 * b), mod-lt (2 * a + b) {m = 2 * b} (omega arith))

pub nearest : (a b : ℕ) → 0 < b → IsNearest a b (near a b)
nearest a b h = (omega (arith, near_low a b h, near_high a b h), λ e. omega (arith, near_low a b h, near_high a b h))

-- ---- the code's test
pub near_down : (m p : ℕ) → 0 < p → m % p < p - m % p → near m p ≡ m / p
near_down m p h l = near_only m p (m / p) (omega (arith, div-add-mod' m p)) (omega (arith, div-add-mod' m p, mod-lt m h))

pub near_up : (m p : ℕ) → 0 < p → p - m % p ≤ m % p → near m p ≡ m / p + 1
near_up m p h l =
    near_only m p (m / p + 1) (omega (arith, div-add-mod' m p, add-mul (m / p) 1 p, one-mul p)) (omega (arith, div-add-mod' m p, mod-lt m h, add-mul (m / p) 1 p, one-mul p))

-- ---- the powers of ten
pub ten_pos : (s : ℕ) → 0 < 10 ^ s
ten_pos s = one-le-pow s 10 (lit< tt)

pub ten_up : (k : ℕ) → 0 < k → 10 ≤ 10 ^ k
ten_up k h = pow-le-pow_right {n = 10} (lit< tt) {i = 1} {j = k} h

split : (d s : ℕ) → s ≤ d → 10 ^ d ≡ 10 ^ (d - s) * 10 ^ s
split d s h = let e : d ≡ (d - s) + s = omega arith in ap (λ (k : ℕ). 10 ^ k) e ∙ pow-add 10 (d - s) s

-- where s is at most d, nothing is rounded
pub near_scaled : (m d s : ℕ) → s ≤ d → near (m * 10 ^ d) (10 ^ s) ≡ m * 10 ^ (d - s)
near_scaled m d s h =
    let P = 10 ^ s in
    let t = 10 ^ (d - s) in
    let e : m * 10 ^ d ≡ m * t * P = ap (λ (k : ℕ). m * k) (split d s h) ∙ sym (mul_assoc m t P) in
    near_only (m * 10 ^ d) P (m * t) (omega (arith, e)) (omega (arith, e, ten_pos s))

-- where s is above d, the power of d cancels
pub near_cancels : (m d s : ℕ) → d ≤ s → near (m * 10 ^ d) (10 ^ s) ≡ near m (10 ^ (s - d))
unfolding near
near_cancels m d s h =
    let P = 10 ^ d in
    let t = 10 ^ (s - d) in
    let e : 2 * (m * P) + t * P ≡ (2 * m + t) * P = ap (λ (k : ℕ). k + t * P) (sym (mul_assoc 2 m P)) ∙ sym (add-mul (2 * m) t P) in
    let g : 2 * (t * P) ≡ 2 * t * P = sym (mul_assoc 2 t P) in
    ap (λ (k : ℕ). near (m * P) k) (split s d h) ∙ rw (e, g) (mul-div-mul_right {m = P} (2 * m + t) (2 * t) (ten_pos d))

-- a whole number is its own nearest
pub near_one : (a : ℕ) → near a 1 ≡ a
near_one a = near_only a 1 a (omega (arith, mul-one a)) (omega (arith, mul-one a))

pub near_half : (m p : ℕ) → 2 ≤ p → near m p ≤ m / 2 + 1
unfolding near
near_half m p h =
    div-le_of_le-mul (2 * p) {m = 2 * m + p} {n = m / 2 + 1}
    (omega (arith, mul-add (2 * p) (m / 2) 1, mul-one (2 * p), mul_assoc 2 p (m / 2), mul-le-mul_right (m / 2) h))

-- ---- a sign, and the range
pub sign_below : (i : ℤ) (r : ℕ) → lt_z i (pos 0) ≡ true → with_sign i r ≡ neg_ℤ (pos r)
unfolding with_sign
sign_below (pos n) r t = absurd (omega (arith, ltb-true n 0 t))
sign_below (negsuc n) r t = refl

pub sign_above : (i : ℤ) (r : ℕ) → lt_z i (pos 0) ≡ false → with_sign i r ≡ pos r
unfolding with_sign
sign_above (pos n) r t = refl
sign_above (negsuc n) r t = absurd (true≢false t)

pub zero_below : (i : ℤ) (r : ℕ) → lt_z i (pos 0) ≡ true → r ≡ 0 → signed_of i r ≡ answer (Some (pos 0))
unfolding whole64
zero_below i r t e = ap whole64 (sign_below i r t ∙ ap (λ (k : ℕ). neg_ℤ (pos k)) e)

pub whole_below : (i : ℤ) (r : ℕ) → lt_z i (pos 0) ≡ true → 0 < r → r - 1 < 2 ^ 63 → signed_of i r ≡ answer (Some (negsuc (r - 1)))
unfolding whole64
whole_below i zero t h l = absurd (omega arith)
whole_below i (suc k) t h l = ap whole64 (sign_below i (suc k) t) ∙ (let e : suc k - 1 ≡ k = omega arith in rw e (simp (lt-ltb k (2 ^ 63) (omega arith))))

pub whole_above : (i : ℤ) (r : ℕ) → lt_z i (pos 0) ≡ false → r < 2 ^ 63 → signed_of i r ≡ answer (Some (pos r))
unfolding whole64
whole_above i r t h = ap whole64 (sign_above i r t) ∙ simp (lt-ltb r (2 ^ 63) h)

pub large_above : (i : ℤ) (r : ℕ) → lt_z i (pos 0) ≡ false → 2 ^ 63 ≤ r → signed_of i r ≡ refusal 21 0
unfolding whole64
large_above i r t h = ap whole64 (sign_above i r t) ∙ simp (le-ltb r (2 ^ 63) h)

pub large : (i : ℤ) (r : ℕ) → 2 ^ 63 < r → signed_of i r ≡ refusal 21 0
unfolding whole64 with_sign
large i zero h = absurd (omega arith)
large (pos n) (suc k) h = simp (le-ltb (suc k) (2 ^ 63) (omega arith))
large (negsuc n) (suc k) h = simp (le-ltb k (2 ^ 63) (omega arith))

-- ---- THE NUMBER that I and s stand for
pub below_pos : (i s : ℤ) → 0 < (stands_for i s).below
below_pos i (pos s) = ten_pos s
below_pos i (negsuc s) = lit< tt

-- for either sign of s, what it rounds to is nearest to it
pub nearest_number : (i s : ℤ) (d : ℕ) → IsNearest (nat_abs (stands_for i s).above * 10 ^ d) (stands_for i s).below (near (nat_abs (stands_for i s).above * 10 ^ d) (stands_for i s).below)
nearest_number i s d = nearest (nat_abs (stands_for i s).above * 10 ^ d) (stands_for i s).below (below_pos i s)

sign_times : (i : ℤ) (p r : ℕ) → 0 < p → with_sign (i *ℤ pos p) r ≡ with_sign i r
unfolding with_sign
sign_times (pos n) p r h = refl
sign_times (negsuc n) p r h = go (suc n * p) (mul-pos {m = suc n} (omega arith) h)
  where
    go : (m : ℕ) → 0 < m → with_sign (neg_ℤ (pos m)) r ≡ neg_ℤ (pos r)
    go zero l = absurd (omega arith)
    go (suc m) l = refl

-- a product is not rounded
pub nearest_product : (i : ℤ) (d k : ℕ) → nearest_to (multiplied i k) d ≡ signed_of i (nat_abs i * 10 ^ k * 10 ^ d)
nearest_product i d k =
    let p = 10 ^ k in
    ap whole64 (sign_times i p (near (nat_abs (i *ℤ pos p) * 10 ^ d) 1) (ten_pos k))
    ∙ ap (signed_of i) (near_one (nat_abs (i *ℤ pos p) * 10 ^ d) ∙ ap (λ (m : ℕ). m * 10 ^ d) (size_times i p))

-- by the sign of s
pub nearest_below : (i s : ℤ) (d : ℕ) → lt_z s (pos 0) ≡ true → nearest_to (multiplied i (nat_abs s)) d ≡ nearest_to (stands_for i s) d
nearest_below i (pos s) d t = absurd (omega (arith, ltb-true s 0 t))
nearest_below i (negsuc s) d t = refl

pub nearest_above : (i s : ℤ) (d : ℕ) → lt_z s (pos 0) ≡ false → nearest_to (divided i (nat_abs s)) d ≡ nearest_to (stands_for i s) d
nearest_above i (pos s) d t = refl
nearest_above i (negsuc s) d t = absurd (true≢false t)
