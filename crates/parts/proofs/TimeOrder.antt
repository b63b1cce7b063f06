-- The order of times: not after is carried on from one time to the next, so a time in a window that lies inside another is in the other too. By the day,
-- then the millisecond. Assumes nothing.
use Prim.Native.Nat.{ℕ, ◌≤◌, ◌<◌}
use native.Mathlib.Decide.{dec_lt}
use native.Mathlib.Omega.{arith}
use mathlib.Core.Path.{◌≡◌, refl, sym, ap, ◌∙◌}
use mathlib.Core.Bool.{Bool, true, false, true≢false, cond, ◌&&◌}
use mathlib.Core.Logic.{◌⊎◌, inl, inr, ⊎_elim}
use borrow.Author.Tests.{lt-ltb, le-ltb}
use Rattle.calendar.specs.Said.{Said, answer, refusal}
use Rattle.meter.specs.Time.{is_milli, order_of, compared}
use Rattle.std.specs.declared.option.Option.TheVariants.{Some, None}
use Rattle.std.specs.declared.cmp.Ordering.TheVariants.{Less, Equal, Greater}
use Rattle.std.specs.declared.option.Option.{Option}
use Rattle.std.specs.declared.cmp.Ordering.{Ordering}
use Rattle.meter.specs.declared.time.Time.{Time}
use Rattle.meter.specs.Instant as T
use Rattle.record.specs.Times.{is_after}
use Rattle.record.proofs.FieldLaws.{both}
use Rattle.parts.specs.Cut.{is_up_to, Window, within, Inside}

-- a day and millisecond that is not after another
pub record NotAfter (d m e n : ℕ) : Type 0 where
  pub first : is_milli d m ≡ true
  pub second : is_milli e n ≡ true
  pub days : d ≤ e
  pub millis : d ≡ e → m ≤ n

order_low : (d m e n : ℕ) → d < e → order_of d m e n ≡ Less
order_low d m e n h = rw (lt-ltb d e h)

order_high : (d m e n : ℕ) → e < d → order_of d m e n ≡ Greater
order_high d m e n h = rw (le-ltb d e (omega arith), lt-ltb e d h)

order_before : (d m n : ℕ) → m < n → order_of d m d n ≡ Less
order_before d m n h = rw (le-ltb d d (omega arith), lt-ltb m n h)

order_after : (d m n : ℕ) → n < m → order_of d m d n ≡ Greater
order_after d m n h = rw (le-ltb d d (omega arith), le-ltb m n (omega arith), lt-ltb n m h)

order_same : (d m n : ℕ) → m ≡ n → order_of d m d n ≡ Equal
order_same d m n e = rw (le-ltb d d (omega arith), e, le-ltb n n (omega arith))

never : (o : Ordering) → o ≡ Greater → is_up_to (answer o) ≡ true → ⊥
never o e u = true≢false (sym u ∙ ap (λ (x : Ordering). is_up_to (answer x)) e)

both_right : (d m e n : ℕ) → is_up_to (compared (T.At d m) (T.At e n)) ≡ true → (is_milli d m ≡ true) × (is_milli e n ≡ true) × (is_up_to (answer (order_of d m e n)) ≡ true)
both_right d m e n u = go (is_milli d m) (is_milli e n) u
  where
    go : (x y : Bool) → is_up_to (cond (x && y) (answer (order_of d m e n)) (refusal 21 0)) ≡ true → (x ≡ true) × (y ≡ true) × (is_up_to (answer (order_of d m e n)) ≡ true)
    go true true u = (refl, refl, u)
    go true false u = absurd (true≢false (sym u))
    go false y u = absurd (true≢false (sym u))

pub not_after : (d m e n : ℕ) → is_up_to (compared (T.At d m) (T.At e n)) ≡ true → NotAfter d m e n
not_after d m e n u =
    let r = both_right d m e n u in
    record { first = r.0; second = r.1; days = day (dec_lt e d) r.2; millis = λ z. milli z (dec_lt n m) r.2 }
  where
    day : Dec (e < d) → is_up_to (answer (order_of d m e n)) ≡ true → d ≤ e
    day (yes h) o = absurd (never (order_of d m e n) (order_high d m e n h) o)
    day (no h) o = omega (arith, h)

    milli : d ≡ e → Dec (n < m) → is_up_to (answer (order_of d m e n)) ≡ true → m ≤ n
    milli z (yes h) o = absurd (never (order_of d m e n) (ap (λ (x : ℕ). order_of d m x n) (sym z) ∙ order_after d m n h) o)
    milli z (no h) o = omega (arith, h)

pub up_to : (d m e n : ℕ) → NotAfter d m e n → is_up_to (compared (T.At d m) (T.At e n)) ≡ true
up_to d m e n k = rw (k.first, k.second) (go (dec_lt d e) (dec_lt m n))
  where
    go : Dec (d < e) → Dec (m < n) → is_up_to (answer (order_of d m e n)) ≡ true
    go (yes h) _ = ap (λ (o : Ordering). is_up_to (answer o)) (order_low d m e n h)
    go (no h) (yes l) =
        let z : e ≡ d = omega (arith, h, k.days) in
        ap (λ (x : ℕ). is_up_to (answer (order_of d m x n))) z ∙ ap (λ (o : Ordering). is_up_to (answer o)) (order_before d m n l)
    go (no h) (no l) =
        let z : e ≡ d = omega (arith, h, k.days) in
        let y : m ≡ n = omega (arith, l, k.millis (sym z)) in
        ap (λ (x : ℕ). is_up_to (answer (order_of d m x n))) z ∙ ap (λ (o : Ordering). is_up_to (answer o)) (order_same d m n y)

-- ON AND ON
pub up_to_on : (s t u : Option Time) → is_up_to (compared s t) ≡ true → is_up_to (compared t u) ≡ true → is_up_to (compared s u) ≡ true
up_to_on None t u p q = absurd (true≢false (sym p))
up_to_on (Some t) None u p q = absurd (true≢false (sym p))
up_to_on (Some t) (Some u) None p q = absurd (true≢false (sym q))
up_to_on (Some t) (Some u) (Some v) p q =
    let x = not_after t.day t.milli u.day u.milli p in
    let y = not_after u.day u.milli v.day v.milli q in
    up_to t.day t.milli v.day v.milli
    record { first = x.first; second = y.second; days = omega (arith, x.days, y.days); millis = λ z. let k : t.day ≡ u.day = omega (arith, x.days, y.days) in let l : u.day ≡ v.day = omega arith in omega (arith, x.millis k, y.millis l) }

pub within_inside : (w v : Window) (t : Option Time) → Inside w v → within w t ≡ true → within v t ≡ true
within_inside w v t i e =
    let b = both (is_up_to (compared w.from t)) (is_up_to (compared t w.to)) e in
    let x = up_to_on v.from w.from t i.from b.0 in
    let y = up_to_on t w.to v.to b.1 i.to in
    rw (x, y)

-- ---- ONE OR THE OTHER
pub up_to_self : (d m : ℕ) → is_milli d m ≡ true → is_up_to (compared (T.At d m) (T.At d m)) ≡ true
up_to_self d m v = up_to d m d m record { first = v; second = v; days = omega arith; millis = λ z. omega arith }

-- a time that is not after another, where both are right, is up to it; and one that is, has the other up to it
module _ (d m e n : ℕ) (v : is_milli d m ≡ true) (w : is_milli e n ≡ true) where
  pub up_to_either : (is_up_to (compared (T.At d m) (T.At e n)) ≡ true) ⊎ (is_up_to (compared (T.At e n) (T.At d m)) ≡ true)
  up_to_either = go (dec_lt d e) (dec_lt e d) (dec_lt m n)
    where
      go : Dec (d < e) → Dec (e < d) → Dec (m < n) → (is_up_to (compared (T.At d m) (T.At e n)) ≡ true) ⊎ (is_up_to (compared (T.At e n) (T.At d m)) ≡ true)
      go (yes h) _ _ = inl (up_to d m e n record { first = v; second = w; days = omega arith; millis = λ z. omega arith })
      go (no h) (yes l) _ = inr (up_to e n d m record { first = w; second = v; days = omega arith; millis = λ z. omega arith })
      go (no h) (no l) (yes k) = inl (up_to d m e n record { first = v; second = w; days = omega (arith, l); millis = λ z. omega arith })
      go (no h) (no l) (no k) = inr (up_to e n d m record { first = w; second = v; days = omega (arith, h); millis = λ z. omega (arith, k) })

after_not : (o : Said Ordering) → is_up_to o ≡ true → is_after o ≡ false
after_not (answer Less) e = refl
after_not (answer Equal) e = refl
after_not (answer Greater) e = absurd (true≢false (sym e))
after_not (refusal n p) e = absurd (true≢false (sym e))

not_after_up : (o : Ordering) → is_after (answer o) ≡ false → is_up_to (answer o) ≡ true
not_after_up Less e = refl
not_after_up Equal e = refl
not_after_up Greater e = absurd (true≢false e)

pub up_to_not : (d m e n : ℕ) → is_milli d m ≡ true → is_milli e n ≡ true → is_after (compared (T.At d m) (T.At e n)) ≡ false → is_up_to (compared (T.At d m) (T.At e n)) ≡ true
up_to_not d m e n v w a = rw (v, w) (not_after_up (order_of d m e n) (rw (v, w) at a))

pub up_to_after : (d m e n : ℕ) → is_milli d m ≡ true → is_milli e n ≡ true → is_after (compared (T.At d m) (T.At e n)) ≡ true → is_up_to (compared (T.At e n) (T.At d m)) ≡ true
up_to_after d m e n v w a = ⊎_elim (λ u. absurd (true≢false (sym a ∙ after_not (compared (T.At d m) (T.At e n)) u))) (λ u. u) (up_to_either d m e n v w)
