-- What a run of bytes and the number of digits are: a run is the bytes that pass up to the first that does not, "each of n bytes" means
-- each, and n digits are a number below 10 ^ n that has those digits and no others. By induction on n. Assumes nothing.
use mathlib.Core.Path.{◌≡◌, refl, sym, ap, ◌∙◌}
use mathlib.Core.Bool.{Bool, true, false, cond, ◌&&◌, true≢false}
use mathlib.Core.List.{List}
use mathlib.Core.Logic.{◌⊎◌, inl, inr}
use Prim.Native.Nat.{ℕ, zero, suc, ◌+◌, ◌-◌, ◌*◌, ◌^◌, ◌≤◌, ◌<◌}
use native.Mathlib.Nat.{not-suc-le-zero, le_of_suc-le-suc, le_refl, pow-suc, pow-le-pow_right, mul_assoc, add-mul}
use native.Mathlib.Numerals.{unary_clauses}
use native.Mathlib.Decide.{dec_lt}
use native.Mathlib.Omega.{arith}
use borrow.Author.Tests.{lt-leb, le-leb, leb-true, eq-eqb, eqb-true}
use lib.Dec.{lit<, leb}
use lib.ListN.{get_or, length, take, drop}
use Rattle.std.proofs.Common.{length-take, length-drop, get_or-take, get_or-drop}
use Rattle.std.specs.List.{AllWithin, HoldsAt}
use Rattle.std.specs.Option.{MatchOption, unwrap_or}
use Rattle.std.specs.Prelude.{Option, None, Some}
use Rattle.calendar.specs.Calendar.{date}
use Rattle.meter.specs.declared.general.Moment.{Moment}
use Rattle.meter.specs.General.{lead, within, run_of, each, number_of, moment_at}

pub and_true : (x y : Bool) → x && y ≡ true → (x ≡ true) × (y ≡ true)
and_true true y e = (refl, e)
and_true false y e = absurd (true≢false (sym e))

-- ---- the first numbers that pass
pub lead_is : (p : ℕ → Bool) (n r : ℕ) → r ≤ n → ((j : ℕ) → j < r → p j ≡ true) → (r < n → p r ≡ false) → lead p n ≡ r
unfolding lead
lead_is p zero zero h f g = refl
lead_is p zero (suc r) h f g = absurd (not-suc-le-zero h)
lead_is p (suc n) zero h f g = rw (g (omega arith))
lead_is p (suc n) (suc r) h f g =
    rw (f 0 (omega arith)) (ap suc (lead_is (λ (j : ℕ). p (suc j)) n r (le_of_suc-le-suc h) (λ j l. f (suc j) (omega arith)) (λ l. g (omega arith))))

pub lead_below : (p : ℕ → Bool) (n j : ℕ) → j < lead p n → p j ≡ true
unfolding lead
lead_below p zero j h = absurd (not-suc-le-zero h)
lead_below p (suc n) j h = go (p 0) refl j h (lead_below (λ (k : ℕ). p (suc k)) n)
  where
    go : (b : Bool) → p 0 ≡ b → (j : ℕ) → j < cond b (suc (lead (λ (k : ℕ). p (suc k)) n)) 0 → ((j : ℕ) → j < lead (λ (k : ℕ). p (suc k)) n → p (suc j) ≡ true) → p j ≡ true
    go true e zero h r = e
    go true e (suc j) h r = r j (le_of_suc-le-suc h)
    go false e j h r = absurd (not-suc-le-zero h)

-- ---- runs
pub outside : (lo hi x : ℕ) → (lo ≤ x → hi < x) → within lo hi x ≡ false
outside lo hi x f = go (leb lo x) refl
  where
    go : (b : Bool) → leb lo x ≡ b → b && leb x hi ≡ false
    go true e = lt-leb x hi (f (leb-true lo x e))
    go false e = refl

pub inside : (lo hi x : ℕ) → lo ≤ x → x ≤ hi → within lo hi x ≡ true
inside lo hi x l h = simp (le-leb lo x l, le-leb x hi h)

abbrev pub In : ℕ → ℕ → ℕ → Type 0
In lo hi x = (lo ≤ x) × (x ≤ hi)

module _ (lo hi : ℕ) (a : List ℕ) (i n : ℕ) where
  pub run_is : (r : ℕ) → r ≤ n → ((j : ℕ) → j < r → within lo hi (get_or a (i + j) 0) ≡ true) → (r < n → within lo hi (get_or a (i + r) 0) ≡ false) → run_of lo hi a i n ≡ r
  unfolding run_of
  run_is r h f g = lead_is (λ (j : ℕ). within lo hi (get_or a (i + j) 0)) n r h f g

  pub run_below : (j : ℕ) → j < run_of lo hi a i n → In lo hi (get_or a (i + j) 0)
  unfolding run_of
  run_below j h =
      let x = get_or a (i + j) 0 in
      let e = and_true (leb lo x) (leb x hi) (lead_below (λ (j : ℕ). within lo hi (get_or a (i + j) 0)) n j h) in
      (leb-true lo x e.0, leb-true x hi e.1)

  -- "each of the n bytes" means each
  pub each_in : each lo hi a i n ≡ true → (j : ℕ) → j < n → In lo hi (get_or a (i + j) 0)
  each_in e j h = run_below j (omega (arith, eqb-true (run_of lo hi a i n) n e))

  pub in_each : ((j : ℕ) → j < n → In lo hi (get_or a (i + j) 0)) → each lo hi a i n ≡ true
  in_each f = eq-eqb _ _ (run_is n (le_refl n) (λ j h. inside lo hi (get_or a (i + j) 0) (f j h).0 (f j h).1) (λ h. absurd (omega arith)))

-- a search for the first byte that is not lo to hi finds the run's end
pub run_found : (lo hi : ℕ) (a : List ℕ) (r : Option ℕ)
    → MatchOption r (AllWithin (In lo hi) a 0 (length a)) (λ k. (k < length a) × HoldsAt (λ (x : ℕ). (x < lo) ⊎ (hi < x)) a k × AllWithin (In lo hi) a 0 k)
    → (unwrap_or r (length a) ≡ run_of lo hi a 0 (length a)) × (unwrap_or r (length a) ≤ length a)
run_found lo hi a None f = (sym (run_is lo hi a 0 (length a) (length a) (le_refl (length a)) passed (λ l. absurd (omega arith))), le_refl (length a))
  where
    passed : (j : ℕ) → j < length a → within lo hi (get_or a (0 + j) 0) ≡ true
    passed j l = let z : 0 + j ≡ j = omega arith in let v = f j 0 (omega arith) l in rw z (inside lo hi (get_or a j 0) v.0 v.1)
run_found lo hi a (Some k) f = (sym (run_is lo hi a 0 (length a) k (omega (arith, f.0)) passed (λ _. stopped)), omega (arith, f.0))
  where
    passed : (j : ℕ) → j < k → within lo hi (get_or a (0 + j) 0) ≡ true
    passed j l = let z : 0 + j ≡ j = omega arith in let v = f.2 j 0 (omega arith) l in rw z (inside lo hi (get_or a j 0) v.0 v.1)

    out : (x : ℕ) → (x < lo) ⊎ (hi < x) → within lo hi x ≡ false
    out x (inl g) = outside lo hi x (λ h. absurd (omega arith))
    out x (inr g) = outside lo hi x (λ _. g)

    stopped : within lo hi (get_or a (0 + k) 0) ≡ false
    stopped = let z : 0 + k ≡ k = omega arith in rw z (out (get_or a k 0) (f.1 0))

lead_same : (p q : ℕ → Bool) (n : ℕ) → ((j : ℕ) → j < n → p j ≡ q j) → lead p n ≡ lead q n
unfolding lead
lead_same p q zero f = refl
lead_same p q (suc n) f = rw (f 0 (omega arith), lead_same (λ (j : ℕ). p (suc j)) (λ (j : ℕ). q (suc j)) n (λ j h. f (suc j) (omega arith))) refl

-- the run of a slice's bytes i to j is that of the n bytes from i on
pub run_part : (lo hi : ℕ) (a : List ℕ) (i j n r : ℕ) → j ≡ i + n → j ≤ length a
    → r ≡ run_of lo hi (take (j - i) (drop i a)) 0 (length (take (j - i) (drop i a))) → r ≡ run_of lo hi a i n
unfolding run_of
run_part lo hi a i j n r e h f =
    let k : j - i ≡ n = omega arith in
    let l : length (take n (drop i a)) ≡ n = simp (length-take, length-drop) (omega arith) in
    rw (k, l) at f ∙ lead_same _ _ n (λ m g. ap (within lo hi) (rw (get_or-take n (drop i a) (0 + m) 0 (omega arith), get_or-drop) (ap (λ (x : ℕ). get_or a x 0) (omega arith))))

-- ---- numbers of bytes
module _ (a : List ℕ) (b : (k : ℕ) → get_or a k 0 < 256) (i : ℕ) where
  pub number_most : (n : ℕ) → number_of a i n + 23 ≤ 23 * 10 ^ n
  unfolding number_of
  number_most zero = omega arith
  number_most (suc n) = rw pow-suc (omega (arith, number_most n, b (i + n)))

  pub number_below : (n m : ℕ) → n ≤ m → number_of a i n < 23 * 10 ^ m
  number_below n m h = omega (arith, number_most n, pow-le-pow_right {n = 10} (lit< tt) {i = n} {j = m} h)

-- equal bytes, equal numbers
pub number_cong : (a b : List ℕ) (i k n : ℕ) → ((j : ℕ) → j < n → get_or a (i + j) 0 ≡ get_or b (k + j) 0) → number_of a i n ≡ number_of b k n
unfolding number_of
number_cong a b i k zero f = refl
number_cong a b i k (suc n) f = rw (number_cong a b i k n (λ j l. f j (omega arith)), f n (omega arith))

-- p digits and then q digits
pub number_join : (a : List ℕ) (i p q : ℕ) → number_of a i (p + q) ≡ number_of a i p * 10 ^ q + number_of a (i + p) q
unfolding number_of
number_join a i p zero = simp unary_clauses (omega arith)
number_join a i p (suc q) =
    let x = number_of a i p in
    let y = number_of a (i + p) q in
    let e : i + (p + q) ≡ i + p + q = omega arith in
    simp unary_clauses (rw (number_join a i p q, e) (omega (arith, add-mul (x * 10 ^ q) y 10, mul_assoc x (10 ^ q) 10)))

-- ---- numbers of digits
abbrev pub Digits : List ℕ → ℕ → ℕ → Type 0
Digits a i n = (j : ℕ) → j < n → In 48 57 (get_or a (i + j) 0)

pub digits_number : (a : List ℕ) (i n : ℕ) → Digits a i n → number_of a i n < 10 ^ n
unfolding number_of
digits_number a i zero f = omega arith
digits_number a i (suc n) f = rw pow-suc (omega (arith, digits_number a i n (λ j h. f j (omega arith)), f n (omega arith)))

last_same : (a b : List ℕ) (i k n : ℕ) → ((j : ℕ) → j < n → get_or a (i + j) 0 ≡ get_or b (k + j) 0) → get_or a (i + n) 0 ≡ get_or b (k + n) 0 → (j : ℕ) → j < suc n → Dec (j < n) → get_or a (i + j) 0 ≡ get_or b (k + j) 0
last_same a b i k n f e j h (yes l) = f j l
last_same a b i k n f e j h (no l) = let q : n ≡ j = omega (arith, l) in rw q at e

-- equal numbers of n digits have equal digits
pub digits_same : (a b : List ℕ) (i k n : ℕ) → Digits a i n → Digits b k n → number_of a i n ≡ number_of b k n → (j : ℕ) → j < n → get_or a (i + j) 0 ≡ get_or b (k + j) 0
unfolding number_of
digits_same a b i k zero f g e j h = absurd (not-suc-le-zero h)
digits_same a b i k (suc n) f g e j h =
    let u = f n (omega arith) in
    let v = g n (omega arith) in
    let r : number_of a i n ≡ number_of b k n = omega arith in
    let s : get_or a (i + n) 0 ≡ get_or b (k + n) 0 = omega arith in
    last_same a b i k n (digits_same a b i k n (λ j l. f j (omega arith)) (λ j l. g j (omega arith)) r) s j h (dec_lt j n)

-- ---- the seven numbers of a moment
pub moment_read :
    (n : ℕ) (a : List ℕ) (i y m d h t s k : ℕ) → y ≡ number_of a i 4 → m ≡ number_of a (i + 4) 2 → d ≡ number_of a (i + 6) 2 → h ≡ number_of a (i + 8) 2
    → t ≡ number_of a (i + 10) 2 → s ≡ number_of a (i + 12) 2 → k ≡ number_of a (i + 14) (n - 14)
    → ◌≡◌ {A = Moment} (record { date = date y m d; hour = h; minute = t; second = s; milli = k }) (moment_at n a i)
unfolding moment_at
moment_read n a i y m d h t s k ey em ed eh et es ek = rw (ey, em, ed, eh, et, es, ek)

-- and the one number of all its 17 digits
abbrev pub whole_of : Moment → ℕ
whole_of t = (((((t.date.year * 100 + t.date.month) * 100 + t.date.day) * 100 + t.hour) * 100 + t.minute) * 100 + t.second) * 1000 + t.milli

pub whole_is : (a : List ℕ) (i : ℕ) → number_of a i 17 ≡ whole_of (moment_at 17 a i)
unfolding moment_at
whole_is a i =
    omega (arith, number_join a i 14 3, number_join a i 12 2, number_join a i 10 2, number_join a i 8 2, number_join a i 6 2, number_join a i 4 2)
