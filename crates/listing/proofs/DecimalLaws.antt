-- `decimal` is the usual spelling: each byte is a digit, read as a number they give v, and the first is no zero but for 0. By induction on v, whose
-- division by ten takes the last digit off. Assumes nothing.
use Prim.Native.Nat.{ℕ, zero, suc, ◌+◌, ◌-◌, ◌*◌, ◌/◌, ◌%◌, ◌^◌, ◌≤◌, ◌<◌}
use native.Mathlib.Nat.{pow-suc}
use native.Mathlib.Decide.{dec_lt}
use native.Mathlib.Omega.{arith}
use mathlib.Core.Path.{◌≡◌, sym, ap, ◌∙◌}
use mathlib.Core.List.{List, [], ◌∷◌, ◌++◌}
use borrow.Author.Tests.{lt-ltb, le-ltb}
use lib.Dec.{ltb}
use lib.ListN.{length, get_or, length-append, get_or-append}
use lib.Seq.{get_or-append_seam}
use Rattle.meter.specs.General.{number_of}
use Rattle.meter.proofs.GeneralRuns.{number_cong}
use Rattle.listing.specs.Decimal.{digits, decimal}

-- how many digits are allowed does not matter where there are enough
enough : (k j v : ℕ) → v < k → v < j → digits k (ltb v 10) v ≡ digits j (ltb v 10) v
unfolding digits
enough zero j v h l = absurd (omega arith)
enough (suc k) zero v h l = absurd (omega arith)
enough (suc k) (suc j) v h l = go (dec_lt v 10) (λ u. enough k j (v / 10) (omega arith) (omega arith))
  where
    go : Dec (v < 10) → (10 ≤ v → digits k (ltb (v / 10) 10) (v / 10) ≡ digits j (ltb (v / 10) 10) (v / 10)) → digits (suc k) (ltb v 10) v ≡ digits (suc j) (ltb v 10) v
    go (yes u) r = rw (lt-ltb v 10 u)
    go (no u) r = let b : 10 ≤ v = omega (arith, u) in rw (le-ltb v 10 b) (ap (λ (l : List ℕ). l ++ ((48 + v % 10) ∷ [])) (r b))

pub decimal_one : (v : ℕ) → v < 10 → decimal v ≡ (48 + v) ∷ []
unfolding digits decimal
decimal_one v h = rw (lt-ltb v 10 h)

pub decimal_more : (v : ℕ) → 10 ≤ v → decimal v ≡ decimal (v / 10) ++ ((48 + v % 10) ∷ [])
unfolding digits decimal
decimal_more zero h = absurd (omega arith)
decimal_more (suc m) h =
    let v = suc m in
    rw (le-ltb (suc m) 10 h) (ap (λ (l : List ℕ). l ++ ((48 + v % 10) ∷ [])) (enough (suc m) (suc (v / 10)) (v / 10) (omega arith) (omega arith)))

-- what holds of one digit, and of a digit after a spelling that it holds of, holds of each spelling
pub spelt : (P : ℕ → List ℕ → Type 0) → ((v : ℕ) → v < 10 → P v ((48 + v) ∷ [])) → ((v : ℕ) → 10 ≤ v → P (v / 10) (decimal (v / 10)) → P v (decimal (v / 10) ++ ((48 + v % 10) ∷ []))) → (k v : ℕ) → v < k → P v (decimal v)
spelt P one more zero v h = absurd (omega arith)
spelt P one more (suc k) v h = go (dec_lt v 10) (λ u. spelt P one more k (v / 10) (omega arith))
  where
    go : Dec (v < 10) → (10 ≤ v → P (v / 10) (decimal (v / 10))) → P v (decimal v)
    go (yes u) r = rw (decimal_one v u) (one v u)
    go (no u) r = let b : 10 ≤ v = omega (arith, u) in rw (decimal_more v b) (more v b (r b))

-- ---- how many digits there are
pub length_more : (v : ℕ) → 10 ≤ v → length (decimal v) ≡ length (decimal (v / 10)) + 1
length_more v h = ap length (decimal_more v h) ∙ simp length-append

pub length_next : (v n m : ℕ) → 10 ≤ v → n + length (decimal v) ≡ m → n + 1 + length (decimal (v / 10)) ≡ m
length_next v n m h e = omega (arith, length_more v h)

pub length_last : (v n m : ℕ) → v < 10 → n + length (decimal v) ≡ m → n + 1 ≡ m
length_last v n m h e = omega (arith, ap length (decimal_one v h))

pub length_some : (v : ℕ) → 1 ≤ length (decimal v)
length_some v = go (dec_lt v 10)
  where
    go : Dec (v < 10) → 1 ≤ length (decimal v)
    go (yes u) = omega (arith, ap length (decimal_one v u))
    go (no u) = omega (arith, length_more v (omega (arith, u)))

pub length_most : (k v : ℕ) → v < 10 ^ suc k → length (decimal v) ≤ suc k
length_most zero v h = omega (arith, ap length (decimal_one v (omega (arith, pow-suc 10 0))))
length_most (suc k) v h = go (dec_lt v 10) (length_most k (v / 10) (omega (arith, pow-suc 10 (suc k))))
  where
    go : Dec (v < 10) → length (decimal (v / 10)) ≤ suc k → length (decimal v) ≤ suc (suc k)
    go (yes u) r = omega (arith, ap length (decimal_one v u))
    go (no u) r = omega (arith, length_more v (omega (arith, u)))

-- ---- THE SPELLING
pub record Spelling (v : ℕ) (l : List ℕ) : Type 0 where
  pub digit : (j : ℕ) → j < length l → (48 ≤ get_or l j 0) × (get_or l j 0 ≤ 57)
  pub value : number_of l 0 (length l) ≡ v
  pub first : 1 ≤ v → 49 ≤ get_or l 0 0

spelling_one : (v : ℕ) → v < 10 → Spelling v ((48 + v) ∷ [])
unfolding number_of
spelling_one v h = record { digit = only; value = omega arith; first = λ s. omega arith }
  where
    only : (j : ℕ) → j < 1 → (48 ≤ get_or ((48 + v) ∷ []) j 0) × (get_or ((48 + v) ∷ []) j 0 ≤ 57)
    only zero l = (omega arith, omega arith)
    only (suc j) l = absurd (omega arith)

module _ (x : List ℕ) (d v w : ℕ) (s : Spelling w x) where
  more_digit : 48 ≤ d → d ≤ 57 → (j : ℕ) → j < length (x ++ (d ∷ [])) → (48 ≤ get_or (x ++ (d ∷ [])) j 0) × (get_or (x ++ (d ∷ [])) j 0 ≤ 57)
  more_digit h l j u = go (dec_lt j (length x))
    where
      go : Dec (j < length x) → (48 ≤ get_or (x ++ (d ∷ [])) j 0) × (get_or (x ++ (d ∷ [])) j 0 ≤ 57)
      go (yes b) = rw (get_or-append x (d ∷ []) 0 j b) (s.digit j b)
      go (no b) =
          let e : j ≡ length x = omega (arith, b, length-append x (d ∷ [])) in
          rw (e, get_or-append_seam x d [] 0) (h, l)

  more_value : 48 ≤ d → v ≡ w * 10 + (d - 48) → number_of (x ++ (d ∷ [])) 0 (length (x ++ (d ∷ []))) ≡ v
  unfolding number_of
  more_value h e =
      let n : length (x ++ (d ∷ [])) ≡ suc (length x) = length-append x (d ∷ []) ∙ omega arith in
      let z : 0 + length x ≡ length x = omega arith in
      rw n
      (rw (z, get_or-append_seam x d [] 0)
      (rw (number_cong (x ++ (d ∷ [])) x 0 0 (length x) (λ j h. get_or-append x (d ∷ []) 0 (0 + j) (omega arith))) (rw s.value (sym e))))

  more_first : 1 ≤ w → 1 ≤ length x → 49 ≤ get_or (x ++ (d ∷ [])) 0 0
  more_first h l = rw (get_or-append x (d ∷ []) 0 0 l) (s.first h)

pub spelling : (v : ℕ) → Spelling v (decimal v)
spelling v = spelt Spelling spelling_one more (suc v) v (omega arith)
  where
    more : (v : ℕ) → 10 ≤ v → Spelling (v / 10) (decimal (v / 10)) → Spelling v (decimal (v / 10) ++ ((48 + v % 10) ∷ []))
    more v h s = record {
      digit = more_digit (decimal (v / 10)) (48 + v % 10) v (v / 10) s (omega arith) (omega arith);
      value = more_value (decimal (v / 10)) (48 + v % 10) v (v / 10) s (omega arith) (omega arith);
      first = λ u. more_first (decimal (v / 10)) (48 + v % 10) v (v / 10) s (omega arith) (length_some (v / 10));
    }
