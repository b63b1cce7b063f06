-- Sums place by place: they are commutative and associative, a new report is their unit, and where a sum is within the limits its parts are. By induction on
-- the lists. And what the code tests and stores, place by place. Assumes nothing.
use Prim.Native.Nat.{ℕ, zero, suc, ◌+◌, ◌-◌, ◌≤◌, ◌<◌}
use native.Mathlib.Nat.{add_comm, add_assoc}
use native.Mathlib.Decide.{ℕ_discrete}
use native.Mathlib.Omega.{arith}
use mathlib.Core.Path.{◌≡◌, refl, sym, ap, ◌∙◌}
use mathlib.Core.Bool.{Bool, true, false, true≢false}
use mathlib.Core.Logic.{◌≢◌}
use mathlib.Core.List.{List, [], ◌∷◌}
use lib.ListN.{length, get_or, set, replicate, length-set}
use Rattle.std.proofs.lemmas.Slice.Zip.{get_or-zip, length-zip}
use Rattle.std.specs.Bool.{MatchBool}
use Rattle.std.specs.List.{zip, AllWithin, HoldsAt}
use lib.Seq.{get_or-set_same, get_or-set_other, ext_get_or}
use Rattle.month.specs.Report.{plus, empty, Within}
use Rattle.month.specs.Counting.{FitsIs}

pub plus_at : (x y : List ℕ) (k : ℕ) → get_or (plus x y) k 0 ≡ get_or x k 0 + get_or y k 0
plus_at [] y k = omega arith
plus_at (x ∷ xs) [] k = omega arith
plus_at (x ∷ xs) (y ∷ ys) zero = refl
plus_at (x ∷ xs) (y ∷ ys) (suc k) = plus_at xs ys k

pub plus_comm : (x y : List ℕ) → plus x y ≡ plus y x
plus_comm [] [] = refl
plus_comm [] (y ∷ ys) = refl
plus_comm (x ∷ xs) [] = refl
plus_comm (x ∷ xs) (y ∷ ys) = ap (λ (n : ℕ). n ∷ plus xs ys) (add_comm x y) ∙ ap (λ (l : List ℕ). (y + x) ∷ l) (plus_comm xs ys)

pub plus_assoc : (x y z : List ℕ) → plus (plus x y) z ≡ plus x (plus y z)
plus_assoc [] y z = refl
plus_assoc (x ∷ xs) [] z = refl
plus_assoc (x ∷ xs) (y ∷ ys) [] = refl
plus_assoc (x ∷ xs) (y ∷ ys) (z ∷ zs) = ap (λ (n : ℕ). n ∷ plus (plus xs ys) zs) (add_assoc x y z) ∙ ap (λ (l : List ℕ). (x + (y + z)) ∷ l) (plus_assoc xs ys zs)

-- two of three change places
pub plus_swap : (x y z : List ℕ) → plus x (plus y z) ≡ plus y (plus x z)
plus_swap x y z = sym (plus_assoc x y z) ∙ ap (λ (l : List ℕ). plus l z) (plus_comm x y) ∙ plus_assoc y x z

pub plus_length : (x y : List ℕ) → length x ≡ length y → length (plus x y) ≡ length x
plus_length [] [] e = refl
plus_length [] (y ∷ ys) e = absurd (omega arith)
plus_length (x ∷ xs) [] e = refl
plus_length (x ∷ xs) (y ∷ ys) e = ap suc (plus_length xs ys (omega arith))

pub none_at : (n k : ℕ) → ◌≡◌ {A = ℕ} (get_or (replicate n 0) k 0) 0
none_at zero k = refl
none_at (suc n) zero = refl
none_at (suc n) (suc k) = none_at n k

zeros : (n : ℕ) (x : List ℕ) → length x ≡ n → plus x (replicate n 0) ≡ x
zeros zero [] e = refl
zeros zero (x ∷ xs) e = refl
zeros (suc n) [] e = absurd (omega arith)
zeros (suc n) (x ∷ xs) e = ap (λ (k : ℕ). k ∷ plus xs (replicate n 0)) (omega arith) ∙ ap (λ (l : List ℕ). x ∷ l) (zeros n xs (omega arith))

-- a new report is the unit
pub plus_empty : (x : List ℕ) → length x ≡ 38 → plus x empty ≡ x
plus_empty x e = zeros 38 x e

pub empty_plus : (x : List ℕ) → length x ≡ 38 → plus empty x ≡ x
empty_plus x e = plus_comm empty x ∙ plus_empty x e

-- what is added makes no number smaller
pub within_left : (x y : List ℕ) → Within (plus x y) → Within x
within_left x y w = record { products = omega (arith, w.products, plus_at x y 0); each = λ k h. omega (arith, w.each k h, plus_at x y k) }

pub within_right : (x y : List ℕ) → Within (plus x y) → Within y
within_right x y w = record { products = omega (arith, w.products, plus_at x y 0); each = λ k h. omega (arith, w.each k h, plus_at x y k) }

-- ---- THE TEST of the limits, by the code's numbers
module _ (x y : List ℕ) where
  pub not_fits : (Within (plus x y) → ⊥) → FitsIs x y false
  not_fits d = record { right = λ e. absurd (true≢false (sym e)); wrong = λ _ w. d w }

  pub many_other : 4096 < get_or y 0 0 → FitsIs x y false
  many_other h = not_fits (λ w. omega (arith, w.products, plus_at x y 0))

  pub many_both : 4096 - get_or y 0 0 < get_or x 0 0 → FitsIs x y false
  many_both h = not_fits (λ w. omega (arith, w.products, plus_at x y 0))

  -- the sum of two numbers is in 64 bits, or is not
  abbrev pub Fits : ℕ × ℕ → Type 0
  Fits p = p.0 + p.1 < 18446744073709551616

  abbrev pub Passes : ℕ × ℕ → Type 0
  Passes p = 18446744073709551616 ≤ p.0 + p.1

  module _ (long : length x ≡ 38) (long' : length y ≡ 38) where
    pair : (k : ℕ) → k < 38 → get_or (zip x y) k (0, 0) ≡ (get_or x k 0, get_or y k 0)
    pair k l = get_or-zip x y k (0, 0) (omega arith) (omega arith)

    pub all_fit : (r : Bool) → get_or x 0 0 + get_or y 0 0 ≤ 4096 → MatchBool r (AllWithin Fits (zip x y) 0 (length (zip x y))) ((k : ℕ) × (k < length (zip x y)) × HoldsAt Passes (zip x y) k) → FitsIs x y r
    all_fit true h f = record {
      right = λ _. record { products = omega (arith, plus_at x y 0); each = λ k m. omega (arith, plus_at x y k, rw (pair k m) at (f k (0, 0) (omega arith) (simp length-zip (omega arith)))) };
      wrong = λ e. absurd (true≢false e);
    }
    all_fit false h (k, l, p) =
        let m : k < 38 = omega (arith, simp length-zip at l) in
        not_fits (λ w. omega (arith, w.each k m, plus_at x y k, rw (pair k m) at (p (0, 0))))

  -- ---- THE SUM, place by place: those before place i are in, the others are as they were
  pub record Summed (z : List ℕ) (i : ℕ) : Type 0 where
    pub long : length z ≡ length x
    pub done : (k : ℕ) → k < i → get_or z k 0 ≡ get_or x k 0 + get_or y k 0
    pub kept : (k : ℕ) → i ≤ k → get_or z k 0 ≡ get_or x k 0

  pub sum_first : Summed x 0
  sum_first = record { long = refl; done = λ k l. absurd (omega arith); kept = λ k l. refl }

  pub sum_next : {z : List ℕ} {i : ℕ} → Summed z i → i < length x → Summed (set z i (get_or z i 0 + get_or y i 0)) (i + 1)
  sum_next {z} {i} s h = record {
    long = length-set z i (get_or z i 0 + get_or y i 0) ∙ s.long;
    done = λ k l. go k l (ℕ_discrete k i);
    kept = λ k l. let n : k ≢ i = omega arith in get_or-set_other z i k (get_or z i 0 + get_or y i 0) 0 n ∙ s.kept k (omega arith);
  }
    where
      go : (k : ℕ) → k < i + 1 → Dec (k ≡ i) → get_or (set z i (get_or z i 0 + get_or y i 0)) k 0 ≡ get_or x k 0 + get_or y k 0
      go k l (yes e) = rw e (get_or-set_same z i (get_or z i 0 + get_or y i 0) 0 (omega (arith, s.long)) ∙ ap (λ (n : ℕ). n + get_or y i 0) (s.kept i (omega arith)))
      go k l (no n) = get_or-set_other z i k (get_or z i 0 + get_or y i 0) 0 n ∙ s.done k (omega (arith, n))

  pub sum_last : {z : List ℕ} {i : ℕ} → Summed z i → length x ≡ length y → length x ≤ i → z ≡ plus x y
  sum_last {z} {i} s e h = ext_get_or 0 z (plus x y) (s.long ∙ sym (plus_length x y e)) (λ k l. s.done k (omega (arith, s.long)) ∙ sym (plus_at x y k))
