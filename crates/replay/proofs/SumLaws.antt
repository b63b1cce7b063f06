-- Sums of lengths: one more, of the same lengths, no smaller the more there are; and a sum under way, which fits 64 bits. Assumes nothing.
use Prim.Native.Nat.{ℕ, zero, suc, ◌+◌, ◌-◌, ◌*◌, ◌≤◌, ◌<◌}
use native.Mathlib.Numerals.{add-one}
use native.Mathlib.Omega.{arith}
use mathlib.Core.Path.{◌≡◌, refl, sym, ap, ◌∙◌}
use mathlib.Core.List.{List, [], ◌∷◌}
use lib.ListN.{length}
use Rattle.std.specs.List.{sum}
use Rattle.std.proofs.lemmas.List.Sums.{sum_by-cons}
use Rattle.replay.specs.Layout.{sums, length_in}

pub sums_none : (f : ℕ → ℕ) → sums f 0 ≡ 0
unfolding sums
sums_none f = refl

pub sums_suc : (f : ℕ → ℕ) (k : ℕ) → sums f (suc k) ≡ sums f k + f k
unfolding sums
sums_suc f k = refl

pub sums_more : (f : ℕ → ℕ) (k : ℕ) → sums f (k + 1) ≡ sums f k + f k
sums_more f k = ap (sums f) (add-one k) ∙ sums_suc f k

pub sums_same : (f g : ℕ → ℕ) (k : ℕ) → ((j : ℕ) → j < k → f j ≡ g j) → sums f k ≡ sums g k
sums_same f g zero e = sums_none f ∙ (let z = sums_none g in omega arith)
sums_same f g (suc k) e = omega (arith, sums_suc f k, sums_suc g k, sums_same f g k (λ j h. e j (omega arith)), e k (omega arith))

grows : (f : ℕ → ℕ) (k d : ℕ) → sums f k ≤ sums f (k + d)
grows f k zero = omega (arith, ap (sums f) (plain k))
  where
    plain : (k : ℕ) → k + 0 ≡ k
    plain k = omega arith
grows f k (suc d) = omega (arith, ap (sums f) (next k d), sums_suc f (k + d), grows f k d)
  where
    next : (k d : ℕ) → k + suc d ≡ suc (k + d)
    next k d = omega arith

pub sums_le : (f : ℕ → ℕ) (k n : ℕ) → k ≤ n → sums f k ≤ sums f n
sums_le f k n h = let e : k + (n - k) ≡ n = omega arith in omega (arith, grows f k (n - k), ap (sums f) e)

-- ---- s is the sum of the first k lengths, each of which is below 2^32
pub record Summed (f : ℕ → ℕ) (k s : ℕ) : Type 0 where
  pub is : s ≡ sums f k
  pub most : s ≤ 4294967295 * k

pub summed_none : (f : ℕ → ℕ) → Summed f 0 0
summed_none f = record { is = sym (sums_none f); most = omega arith }

pub summed_more : {f : ℕ → ℕ} {k s x : ℕ} → Summed f k s → x ≡ f k → x < 4294967296 → Summed f (k + 1) (s + x)
summed_more {f} {k} h e l = record { is = omega (arith, h.is, e, sums_more f k); most = omega (arith, h.most) }

pub summed_fits : {f : ℕ → ℕ} {k s x : ℕ} → Summed f k s → k < 4294967296 → x < 4294967296 → s + x < 18446744073709551616
summed_fits h l m = omega (arith, h.most)

pub summed_all : {f : ℕ → ℕ} {k n s : ℕ} → Summed f k s → k ≡ n → s ≡ sums f n
summed_all {f} h e = h.is ∙ ap (sums f) e

-- ---- of a list
first : (f : ℕ → ℕ) (k : ℕ) → sums f (suc k) ≡ f 0 + sums (λ (j : ℕ). f (suc j)) k
first f zero = omega (arith, sums_suc f 0, sums_none f, sums_none (λ (j : ℕ). f (suc j)))
first f (suc k) = omega (arith, sums_suc f (suc k), first f k, sums_suc (λ (j : ℕ). f (suc j)) k)

pub sum_is : (ls : List ℕ) → sum ls ≡ sums (length_in ls) (length ls)
sum_is [] = sym (sums_none (length_in []))
sum_is (x ∷ ls) = omega (arith, sum_by-cons (λ (y : ℕ). y) x ls, sum_is ls, first (length_in (x ∷ ls)) (length ls))
