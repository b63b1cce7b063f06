-- The order of times agrees with the order of their texts: the 17 digits of a text are one number, the date's key and then the clock's,
-- which grows with the day and with the millisecond; and of two numbers of as many digits the less has the lesser digit where they
-- first differ. Assumes nothing.
use Rattle.meter.proofs.TimeLaws.{last_most}
use mathlib.Core.Path.{◌≡◌, refl, sym, ap, ◌∙◌}
use mathlib.Core.Bool.{Bool, true, false, cond}
use mathlib.Core.Logic.{◌⊎◌, inl, inr}
use mathlib.Core.List.{List}
use Prim.Native.Nat.{ℕ, zero, suc, ◌+◌, ◌*◌, ◌/◌, ◌≤◌, ◌<◌}
use native.Mathlib.Decide.{dec_lt}
use native.Mathlib.Omega.{arith}
use borrow.Author.Tests.{lt-ltb, le-ltb, ltb-true, ltb-false}
use lib.Dec.{ltb}
use lib.ListN.{length, get_or}
use Rattle.calendar.specs.Calendar.{date_of}
use Rattle.calendar.proofs.Dates.{key, ordered}
use Rattle.meter.specs.Time.{last_milli, order_of}
use Rattle.std.specs.declared.option.Option.TheVariants.{Some}
use Rattle.std.specs.declared.cmp.Ordering.TheVariants.{Less, Equal, Greater}
use Rattle.meter.specs.Instant as T
use Rattle.meter.specs.General.{number_of, moment_at, put_moment, put_general, moment_of, general_of, minute_of}
use Rattle.meter.proofs.GeneralRuns.{Digits, digits_same, whole_is, whole_of}
use Rattle.meter.proofs.GeneralWrite.{moment_bounds, moment_digits, moment_zed, moment_back}
use Rattle.meter.proofs.GeneralTime.{moment_valid, text_same}

-- a stands before b: where they first differ, before byte n, a has the lesser byte
pub record TextBefore (a b : List ℕ) (n : ℕ) : Type 0 where
  pub place : ℕ
  pub early : place < n
  pub same : (j : ℕ) → j < place → get_or a j 0 ≡ get_or b j 0
  pub less : get_or a place 0 < get_or b place 0

widen : {a b : List ℕ} {n : ℕ} → TextBefore a b n → TextBefore a b (suc n)
widen t = record { place = t.place; early = omega (arith, t.early); same = t.same; less = t.less }

-- a text does not stand before one that stands before it, nor before one with the same bytes
pub not_both : (a b : List ℕ) (n k : ℕ) → TextBefore a b n → TextBefore b a k → ⊥
not_both a b n k t u = go (dec_lt t.place u.place) (dec_lt u.place t.place)
  where
    go : Dec (t.place < u.place) → Dec (u.place < t.place) → ⊥
    go (yes h) d = omega (arith, u.same t.place h, t.less)
    go (no h) (yes l) = omega (arith, t.same u.place l, u.less)
    go (no h) (no l) = let e : u.place ≡ t.place = omega (arith, h, l) in let v = rw e at u.less in omega (arith, t.less, v)

pub not_same : (a b : List ℕ) (n : ℕ) → ((j : ℕ) → j < n → get_or a j 0 ≡ get_or b j 0) → TextBefore a b n → ⊥
not_same a b n f t = omega (arith, f t.place t.early, t.less)

-- ---- of two numbers of n digits, the text of the less stands before
before_step : (a b : List ℕ) (n : ℕ) → Digits a 0 (suc n) → Digits b 0 (suc n) → number_of a 0 (suc n) < number_of b 0 (suc n) → Dec (number_of a 0 n < number_of b 0 n) → (number_of a 0 n < number_of b 0 n → TextBefore a b n) → TextBefore a b (suc n)
unfolding number_of
before_step a b n f g l (yes h) r = widen (r h)
before_step a b n f g l (no h) r =
    let u = f n (omega arith) in
    let v = g n (omega arith) in
    let e : number_of a 0 n ≡ number_of b 0 n = omega (arith, h) in
    let z : 0 + n ≡ n = omega arith in
    let d : get_or a (0 + n) 0 < get_or b (0 + n) 0 = omega arith in
    record {
      place = n;
      early = omega arith;
      same = λ j k. let y : 0 + j ≡ j = omega arith in rw y at (digits_same a b 0 0 n (λ i w. f i (omega arith)) (λ i w. g i (omega arith)) e j k);
      less = rw z at d;
    }

pub number_before : (a b : List ℕ) (n : ℕ) → Digits a 0 n → Digits b 0 n → number_of a 0 n < number_of b 0 n → TextBefore a b n
unfolding number_of
number_before a b zero f g l = absurd (omega arith)
number_before a b (suc n) f g l =
    before_step a b n f g l (dec_lt (number_of a 0 n) (number_of b 0 n)) (number_before a b n (λ j h. f j (omega arith)) (λ j h. g j (omega arith)))

-- ---- the number of a text grows with its time
whole_of_lem : (d m : ℕ) → whole_of (moment_of d m) ≡ key (date_of d) * 1000000000 + (m + 40000 * minute_of m + 4000000 * (minute_of m / 60))
unfolding moment_of
whole_of_lem d m = omega arith

clock_small : (m : ℕ) → m ≤ 86400999 → m + 40000 * minute_of m + 4000000 * (minute_of m / 60) < 1000000000
clock_small m h = omega arith

clock_grows : (m k : ℕ) → m < k → m + 40000 * minute_of m + 4000000 * (minute_of m / 60) < k + 40000 * minute_of k + 4000000 * (minute_of k / 60)
clock_grows m k h =
    let p : minute_of m ≤ minute_of k = omega arith in
    let q : minute_of m / 60 ≤ minute_of k / 60 = omega arith in
    omega arith

-- by day, then by millisecond
abbrev pub Earlier : ℕ → ℕ → ℕ → ℕ → Type 0
Earlier d m e k = (d < e) ⊎ ((d ≡ e) × (m < k))

whole_less : (d m e k : ℕ) → m ≤ last_milli d → k ≤ last_milli e → Earlier d m e k → whole_of (moment_of d m) < whole_of (moment_of e k)
whole_less d m e k h l (inl w) = omega (arith, whole_of_lem d m, whole_of_lem e k, clock_small m (omega (arith, h, last_most d)), ordered d e w)
whole_less d m e k h l (inr (w, v)) = omega (arith, whole_of_lem d m, whole_of_lem e k, clock_grows m k v, ap (λ (n : ℕ). key (date_of n)) w)

-- ---- THE ORDER
module _ (d m : ℕ) (x : List ℕ) (day : d < 65536) (milli : m ≤ last_milli d) (room : 18 ≤ length x) where
  pub text_digits : Digits (put_moment 17 x (moment_of d m)) 0 17
  text_digits = moment_digits 17 x (moment_of d m) (omega arith) (omega arith)

  text_moment : moment_at 17 (put_moment 17 x (moment_of d m)) 0 ≡ moment_of d m
  text_moment =
      let b = moment_bounds (moment_of d m) (moment_valid d m day milli) in
      moment_back 17 x (moment_of d m) (omega arith) (omega arith) b (omega (arith, b.milli))

  text_number : number_of (put_moment 17 x (moment_of d m)) 0 17 ≡ whole_of (moment_of d m)
  text_number = whole_is (put_moment 17 x (moment_of d m)) 0 ∙ ap whole_of text_moment

module _ (d m e k : ℕ) (x y : List ℕ) (day : d < 65536) (milli : m ≤ last_milli d) (room : 18 ≤ length x) (day' : e < 65536) (milli' : k ≤ last_milli e) (room' : 18 ≤ length y) where
  -- an earlier time has the earlier text
  pub earlier_text : Earlier d m e k → TextBefore (put_general 17 x (general_of (T.At d m))) (put_general 17 y (general_of (T.At e k))) 18
  earlier_text w =
      widen (number_before (put_moment 17 x (moment_of d m)) (put_moment 17 y (moment_of e k)) 17 (text_digits d m x day milli room) (text_digits e k y day' milli' room')
      (omega (arith, text_number d m x day milli room, text_number e k y day' milli' room', whole_less d m e k milli milli' w)))

  same_text : d ≡ e → m ≡ k → (j : ℕ) → j < 18 → get_or (put_moment 17 x (moment_of d m)) j 0 ≡ get_or (put_moment 17 y (moment_of e k)) j 0
  same_text u v j l =
      let z : 0 + j ≡ j = omega arith in
      let q : moment_of d m ≡ moment_of e k = rw (u, v) in
      let s =
      text_same (put_moment 17 x (moment_of d m)) (put_moment 17 y (moment_of e k)) 0 0 (text_digits d m x day milli room) (text_digits e k y day' milli' room')
      (moment_zed 17 x (moment_of d m) (omega arith) (omega arith)) (moment_zed 17 y (moment_of e k) (omega arith) (omega arith))
      (text_moment d m x day milli room ∙ q ∙ sym (text_moment e k y day' milli' room')) j l in
      rw z at s

module _ (d m e k : ℕ) (x y : List ℕ) (day : d < 65536) (milli : m ≤ last_milli d) (room : 18 ≤ length x) (day' : e < 65536) (milli' : k ≤ last_milli e) (room' : 18 ≤ length y) where
  -- and the earlier text is of the earlier time
  pub text_earlier : TextBefore (put_general 17 x (general_of (T.At d m))) (put_general 17 y (general_of (T.At e k))) 18 → Earlier d m e k
  text_earlier t = go (dec_lt d e) (dec_lt e d) (dec_lt m k) (dec_lt k m)
    where
      later : Earlier e k d m → ⊥
      later w = not_both (put_moment 17 x (moment_of d m)) (put_moment 17 y (moment_of e k)) 18 18 t (earlier_text e k d m y x day' milli' room' day milli room w)

      go : Dec (d < e) → Dec (e < d) → Dec (m < k) → Dec (k < m) → Earlier d m e k
      go (yes a) b f g = inl a
      go (no a) (yes b) f g = absurd (later (inl b))
      go (no a) (no b) (yes f) g = inr (omega (arith, a, b), f)
      go (no a) (no b) (no f) (yes g) = absurd (later (inr (omega (arith, a, b), g)))
      go (no a) (no b) (no f) (no g) =
          absurd (not_same (put_moment 17 x (moment_of d m)) (put_moment 17 y (moment_of e k)) 18 (same_text d m e k x y day milli room day' milli' room' (omega (arith, a, b)) (omega (arith, f, g))) t)

-- ---- the order that time_order answers
order_earlier : (d m e k : ℕ) (p q r s : Bool) → ltb d e ≡ p → ltb e d ≡ q → ltb m k ≡ r → cond p Less (cond q Greater (cond r Less (cond s Greater Equal))) ≡ Less → Earlier d m e k
order_earlier d m e k true q r s p-is q-is r-is o = inl (ltb-true d e p-is)
order_earlier d m e k false true r s p-is q-is r-is o = let z : ◌≡◌ {A = ℕ} 0 1 = cc in absurd (omega arith)
order_earlier d m e k false false true s p-is q-is r-is o = inr (omega (arith, ltb-false d e p-is, ltb-false e d q-is), ltb-true m k r-is)
order_earlier d m e k false false false true p-is q-is r-is o = let z : ◌≡◌ {A = ℕ} 0 1 = cc in absurd (omega arith)
order_earlier d m e k false false false false p-is q-is r-is o = let z : ◌≡◌ {A = ℕ} 0 1 = cc in absurd (omega arith)

earlier_order : (d m e k : ℕ) → Earlier d m e k → order_of d m e k ≡ Less
earlier_order d m e k (inl w) = rw (lt-ltb d e w)
earlier_order d m e k (inr (w, v)) = rw (le-ltb d e (omega arith), le-ltb e d (omega arith), lt-ltb m k v)

module _ (d m e k : ℕ) (x y : List ℕ) (day : d < 65536) (milli : m ≤ last_milli d) (room : 18 ≤ length x) (day' : e < 65536) (milli' : k ≤ last_milli e) (room' : 18 ≤ length y) where
  -- THE ORDER AGREES WITH THE TEXTS'
  pub order_text : order_of d m e k ≡ Less → TextBefore (put_general 17 x (general_of (T.At d m))) (put_general 17 y (general_of (T.At e k))) 18
  order_text o =
      earlier_text d m e k x y day milli room day' milli' room' (order_earlier d m e k (ltb d e) (ltb e d) (ltb m k) (ltb k m) refl refl refl o)

  pub text_order : TextBefore (put_general 17 x (general_of (T.At d m))) (put_general 17 y (general_of (T.At e k))) 18 → order_of d m e k ≡ Less
  text_order t = earlier_order d m e k (text_earlier d m e k x y day milli room day' milli' room' t)
