-- What is written: n digits of a number, n times x, a moment, a general time. Only the bytes 0 to n change, and what was written reads
-- back, in the short form and in the long one (14 and 17 digits: one proof over n). By induction on the digits. Assumes nothing.
use mathlib.Core.Path.{◌≡◌, refl, sym, ◌∙◌}
use mathlib.Core.Bool.{Bool, true, false, ◌&&◌, cond}
use mathlib.Core.List.{List, [], ◌∷◌, ◌++◌}
use Prim.Native.Nat.{ℕ, zero, suc, ◌+◌, ◌-◌, ◌/◌, ◌%◌, ◌^◌, ◌≤◌, ◌<◌}
use native.Mathlib.Nat.{pow-suc, not-suc-le-zero}
use native.Mathlib.Decide.{dec_lt}
use native.Mathlib.Numerals.{add-one}
use native.Mathlib.Omega.{arith}
use Rattle.std.proofs.Common.{append_assoc}
use Rattle.std.proofs.lemmas.List.{drop-set, replicate_more}
use borrow.Author.Tests.{eq-eqb, le-leb, leb-true, eqb-true}
use lib.Dec.{leb, eqb}
use lib.ListN.{length, get_or, set, drop, replicate, length-set}
use lib.Seq.{get_or-set_same, get_or-set_other}
use Rattle.calendar.specs.Said.{answer}
use Rattle.calendar.specs.Calendar.{is_date, leap_date}
use Rattle.calendar.specs.declared.Date.{Date}
use Rattle.calendar.proofs.Dates.{valid, valid_day}
use Rattle.meter.specs.Lent.{reads}
use Rattle.meter.specs.declared.general.Moment.{Moment}
use Rattle.std.specs.declared.option.Option.TheVariants.{Some, None}
use Rattle.std.specs.declared.option.Option.{Option}
use Rattle.meter.specs.General.{digits_of, number_of, each, is_none, is_digits, moment_at, last_second, is_moment, is_general, general_at, general_read_at, put_digits, put_moment, put_x, put_none, put_general, fits_general}
use Rattle.meter.proofs.GeneralRuns.{and_true, In, Digits, each_in, in_each, number_cong, moment_read}

-- ---- n digits
pub digits_length : (a : List ℕ) (i n v : ℕ) → length (put_digits a i n v) ≡ length a
unfolding put_digits
digits_length a i zero v = refl
digits_length a i (suc n) v = digits_length (set a (i + n) (48 + v % 10)) i n (v / 10) ∙ length-set a (i + n) (48 + v % 10)

pub digits_after : (a : List ℕ) (i n v j : ℕ) → i + n ≤ j → get_or (put_digits a i n v) j 0 ≡ get_or a j 0
unfolding put_digits
digits_after a i zero v j h = refl
digits_after a i (suc n) v j h = digits_after (set a (i + n) (48 + v % 10)) i n (v / 10) j (omega arith) ∙ get_or-set_other a (i + n) j (48 + v % 10) 0 (λ e. omega arith)

pub digits_before : (a : List ℕ) (i n v j : ℕ) → j < i → get_or (put_digits a i n v) j 0 ≡ get_or a j 0
unfolding put_digits
digits_before a i zero v j h = refl
digits_before a i (suc n) v j h = digits_before (set a (i + n) (48 + v % 10)) i n (v / 10) j h ∙ get_or-set_other a (i + n) j (48 + v % 10) 0 (λ e. omega arith)

pub digits_step : (a : List ℕ) (i n v : ℕ) → 0 < n → put_digits a i n v ≡ put_digits (set a (i + (n - 1)) (48 + v % 10)) i (n - 1) (v / 10)
unfolding put_digits
digits_step a i zero v h = absurd (omega arith)
digits_step a i (suc k) v h = let e : suc k - 1 ≡ k = omega arith in rw e

pub digits_none : (a : List ℕ) (i n v : ℕ) → n ≡ 0 → put_digits a i n v ≡ a
unfolding put_digits
digits_none a i zero v h = refl
digits_none a i (suc k) v h = absurd (omega arith)

-- they read back
pub digits_back : (a : List ℕ) (i n v : ℕ) → i + n ≤ length a → v < 10 ^ n → number_of (put_digits a i n v) i n ≡ v
unfolding number_of put_digits
digits_back a i zero v h l = omega arith
digits_back a i (suc n) v h l =
    let d = 48 + v % 10 in
    let t = set a (i + n) d in
    let low : get_or (put_digits t i n (v / 10)) (i + n) 0 ≡ d = digits_after t i n (v / 10) (i + n) (omega arith) ∙ get_or-set_same a (i + n) d 0 (omega arith) in
    let high : number_of (put_digits t i n (v / 10)) i n ≡ v / 10 = digits_back t i n (v / 10) (simp length-set (omega arith)) (omega (arith, rw pow-suc at l)) in
    rw (high, low) (omega arith)

last_digit : (b : List ℕ) (i n : ℕ) → Digits b i n → In 48 57 (get_or b (i + n) 0) → (j : ℕ) → j < suc n → Dec (j < n) → In 48 57 (get_or b (i + j) 0)
last_digit b i n f d j h (yes k) = f j k
last_digit b i n f d j h (no k) = let e : n ≡ j = omega (arith, k) in rw e at d

-- they are digits
pub digits_are : (a : List ℕ) (i n v : ℕ) → i + n ≤ length a → Digits (put_digits a i n v) i n
unfolding put_digits
digits_are a i zero v h j l = absurd (not-suc-le-zero l)
digits_are a i (suc n) v h j l =
    let d = 48 + v % 10 in
    let t = set a (i + n) d in
    let low : get_or (put_digits t i n (v / 10)) (i + n) 0 ≡ d = digits_after t i n (v / 10) (i + n) (omega arith) ∙ get_or-set_same a (i + n) d 0 (omega arith) in
    last_digit (put_digits t i n (v / 10)) i n (digits_are t i n (v / 10) (simp length-set (omega arith))) (omega arith) j l (dec_lt j n)

-- ---- n times x
pub x_length : (a : List ℕ) (n : ℕ) → length (put_x a n) ≡ length a
unfolding put_x
x_length a zero = refl
x_length a (suc n) = x_length (set a n 120) n ∙ length-set a n 120

pub x_after : (a : List ℕ) (n j : ℕ) → n ≤ j → get_or (put_x a n) j 0 ≡ get_or a j 0
unfolding put_x
x_after a zero j h = refl
x_after a (suc n) j h = x_after (set a n 120) n j (omega arith) ∙ get_or-set_other a n j 120 0 (λ e. omega arith)

-- as a slice's first n bytes are filled
pub x_filled : (a : List ℕ) (n : ℕ) → n ≤ length a → replicate n 120 ++ drop n a ≡ put_x a n
unfolding put_x
x_filled a zero h = refl
x_filled a (suc n) h =
    let l : n < length a = omega arith in
    sym (sym (x_filled (set a n 120) n (simp length-set (omega arith))) ∙ rw (drop-set a n 120 l) (rw (sym (append_assoc (replicate n 120) (120 ∷ []) (drop (n + 1) a)), replicate_more {X = ℕ} n 120, add-one) refl))

last_x : (b : List ℕ) (n : ℕ) → ((j : ℕ) → j < n → get_or b j 0 ≡ 120) → get_or b n 0 ≡ 120 → (j : ℕ) → j < suc n → Dec (j < n) → get_or b j 0 ≡ 120
last_x b n f d j h (yes k) = f j k
last_x b n f d j h (no k) = let e : n ≡ j = omega (arith, k) in rw e at d

pub x_are : (a : List ℕ) (n : ℕ) → n ≤ length a → (j : ℕ) → j < n → get_or (put_x a n) j 0 ≡ 120
unfolding put_x
x_are a zero h j l = absurd (not-suc-le-zero l)
x_are a (suc n) h j l =
    let t = set a n 120 in
    let low : get_or (put_x t n) n 0 ≡ 120 = x_after t n n (omega arith) ∙ get_or-set_same a n 120 0 (omega arith) in
    last_x (put_x t n) n (x_are t n (simp length-set (omega arith))) low j l (dec_lt j n)

-- ---- fields, each with its width and its value, one after the other
abbrev put_all : List ℕ → ℕ → List (ℕ × ℕ) → List ℕ
put_all a i [] = a
put_all a i ((w, v) ∷ fs) = put_all (put_digits a i w v) (i + w) fs

abbrev ends : ℕ → List (ℕ × ℕ) → ℕ
ends i [] = i
ends i ((w, v) ∷ fs) = ends (i + w) fs

-- each value fits its width
abbrev Small : List (ℕ × ℕ) → Type 0
Small [] = Unit
Small ((w, v) ∷ fs) = (v < 10 ^ w) × Small fs

-- each value stands in its place
abbrev Read : List ℕ → ℕ → List (ℕ × ℕ) → Type 0
Read b i [] = Unit
Read b i ((w, v) ∷ fs) = (number_of b i w ≡ v) × Read b (i + w) fs

ends_from : (i : ℕ) (fs : List (ℕ × ℕ)) → i ≤ ends i fs
ends_from i [] = omega arith
ends_from i ((w, v) ∷ fs) = omega (arith, ends_from (i + w) fs)

all_length : (a : List ℕ) (i : ℕ) (fs : List (ℕ × ℕ)) → length (put_all a i fs) ≡ length a
all_length a i [] = refl
all_length a i ((w, v) ∷ fs) = all_length (put_digits a i w v) (i + w) fs ∙ digits_length a i w v

all_before : (a : List ℕ) (i : ℕ) (fs : List (ℕ × ℕ)) (j : ℕ) → j < i → get_or (put_all a i fs) j 0 ≡ get_or a j 0
all_before a i [] j h = refl
all_before a i ((w, v) ∷ fs) j h = all_before (put_digits a i w v) (i + w) fs j (omega arith) ∙ digits_before a i w v j h

all_after : (a : List ℕ) (i : ℕ) (fs : List (ℕ × ℕ)) (j : ℕ) → ends i fs ≤ j → get_or (put_all a i fs) j 0 ≡ get_or a j 0
all_after a i [] j h = refl
all_after a i ((w, v) ∷ fs) j h = all_after (put_digits a i w v) (i + w) fs j h ∙ digits_after a i w v j (omega (arith, ends_from (i + w) fs))

all_read : (a : List ℕ) (i : ℕ) (fs : List (ℕ × ℕ)) → ends i fs ≤ length a → Small fs → Read (put_all a i fs) i fs
all_read a i [] h s = tt
all_read a i ((w, v) ∷ fs) h s =
    let b = put_digits a i w v in
    let keep : number_of (put_all b (i + w) fs) i w ≡ number_of b i w = number_cong (put_all b (i + w) fs) b i i w (λ j l. all_before b (i + w) fs (i + j) (omega arith)) in
    let here : number_of b i w ≡ v = digits_back a i w v (omega (arith, ends_from (i + w) fs)) s.0 in
    (keep ∙ here, all_read b (i + w) fs (omega (arith, digits_length a i w v)) s.1)

all_digit : (a : List ℕ) (i w v : ℕ) (fs : List (ℕ × ℕ)) → i + w ≤ length a → ((j : ℕ) → i + w ≤ j → j < ends (i + w) fs → In 48 57 (get_or (put_all (put_digits a i w v) (i + w) fs) j 0)) → (j : ℕ) → i ≤ j → j < ends (i + w) fs → Dec (j < i + w) → In 48 57 (get_or (put_all (put_digits a i w v) (i + w) fs) j 0)
all_digit a i w v fs h f j g l (yes k) =
    let e : i + (j - i) ≡ j = omega arith in
    rw (all_before (put_digits a i w v) (i + w) fs j k) (rw e at (digits_are a i w v h (j - i) (omega arith)))
all_digit a i w v fs h f j g l (no k) = f j (omega (arith, k)) l

all_digits : (a : List ℕ) (i : ℕ) (fs : List (ℕ × ℕ)) → ends i fs ≤ length a → (j : ℕ) → i ≤ j → j < ends i fs → In 48 57 (get_or (put_all a i fs) j 0)
all_digits a i [] h j g l = absurd (omega arith)
all_digits a i ((w, v) ∷ fs) h j g l =
    all_digit a i w v fs (omega (arith, ends_from (i + w) fs)) (all_digits (put_digits a i w v) (i + w) fs (omega (arith, digits_length a i w v))) j g l (dec_lt j (i + w))

not_digit : (b : Bool) (n : ℕ) (a : List ℕ) (c : Bool) → each 120 120 a 0 n ≡ b → 0 < n → In 48 57 (get_or a (0 + 0) 0) → b && c ≡ false
not_digit true n a c e l d = absurd (let x = each_in 120 120 a 0 n e 0 l in omega arith)
not_digit false n a c e l d = refl

not_none : (n : ℕ) (a : List ℕ) → 0 < n → In 48 57 (get_or a (0 + 0) 0) → is_none n a 0 ≡ false
unfolding is_none
not_none n a l d = not_digit (each 120 120 a 0 n) n a _ refl l d

-- ---- a moment
-- what its fields are, where it can be written
pub record Bounds (t : Moment) : Type 0 where
  pub year : t.date.year ≤ 9999
  pub month : t.date.month ≤ 12
  pub day : t.date.day ≤ 31
  pub hour : t.hour ≤ 23
  pub minute : t.minute ≤ 59
  pub second : t.second ≤ 60
  pub extra : 59 < t.second → (t.hour ≡ 23) × (t.minute ≡ 59)
  pub milli : t.milli ≤ 999

date_year : (x : Date) → is_date x ≡ true → x.year ≤ 9999
unfolding is_date
date_year x e = leb-true x.year 9999 (and_true (leb x.year 9999) _ e).0

-- the 60th second is at 23:59 alone
last_second_lem : (x : Date) (h m s : ℕ) → s ≤ last_second x h m → (s ≤ 60) × (59 < s → (h ≡ 23) × (m ≡ 59))
unfolding last_second
last_second_lem x h m s l = go (eqb h 23) refl (eqb m 59) refl (leap_date x) l
  where
    go : (p : Bool) → eqb h 23 ≡ p → (q : Bool) → eqb m 59 ≡ q → (r : Bool) → s ≤ cond (p && (q && r)) 60 59 → (s ≤ 60) × (59 < s → (h ≡ 23) × (m ≡ 59))
    go true e true f true l = (l, λ _. (eqb-true h 23 e, eqb-true m 59 f))
    go true e true f false l = (omega arith, λ g. absurd (omega arith))
    go true e false f r l = (omega arith, λ g. absurd (omega arith))
    go false e q f r l = (omega arith, λ g. absurd (omega arith))

pub moment_bounds : (t : Moment) → is_moment t ≡ true → Bounds t
unfolding is_moment
moment_bounds t e =
    let u = and_true (is_date t.date) _ e in
    let h = and_true (leb t.hour 23) _ u.1 in
    let m = and_true (leb t.minute 59) _ h.1 in
    let s = and_true (leb t.second (last_second t.date t.hour t.minute)) _ m.1 in
    let z = last_second_lem t.date t.hour t.minute t.second (leb-true t.second _ s.0) in
    let x = valid t.date u.0 in
    record {
      year = date_year t.date u.0;
      month = x.month_to;
      day = valid_day t.date x;
      hour = leb-true t.hour 23 h.0;
      minute = leb-true t.minute 59 m.0;
      second = z.0;
      extra = z.1;
      milli = leb-true t.milli 999 s.1;
    }

abbrev fields : ℕ → Moment → List (ℕ × ℕ)
fields n t =
    (4, t.date.year) ∷ (2, t.date.month) ∷ (2, t.date.day) ∷ (2, t.hour) ∷ (2, t.minute) ∷ (2, t.second) ∷ (n - 14, t.milli) ∷ []

put_is : (n : ℕ) (a : List ℕ) (t : Moment) → put_moment n a t ≡ set (put_all a 0 (fields n t)) n 90
unfolding put_moment
put_is n a t = refl

module _ (n : ℕ) (a : List ℕ) (t : Moment) (low : 14 ≤ n) where
  fields_end : ends 0 (fields n t) ≡ n
  fields_end = omega arith

  pub moment_kept : (j : ℕ) → n < j → get_or (put_moment n a t) j 0 ≡ get_or a j 0
  moment_kept j h =
      rw (put_is n a t) (get_or-set_other (put_all a 0 (fields n t)) n j 90 0 (λ e. omega arith) ∙ all_after a 0 (fields n t) j (omega (arith, fields_end)))

  module _ (room : n < length a) where
    moment_below : (j : ℕ) → j < n → get_or (put_moment n a t) j 0 ≡ get_or (put_all a 0 (fields n t)) j 0
    moment_below j h = rw (put_is n a t) (get_or-set_other (put_all a 0 (fields n t)) n j 90 0 (λ e. omega arith))

    pub moment_digits : Digits (put_moment n a t) 0 n
    moment_digits j h =
        let z : 0 + j ≡ j = omega arith in
        rw (z, moment_below j h) (all_digits a 0 (fields n t) (omega (arith, fields_end)) j (omega arith) (omega (arith, fields_end)))

    pub moment_zed : get_or (put_moment n a t) n 0 ≡ 90
    moment_zed = rw (put_is n a t) (get_or-set_same (put_all a 0 (fields n t)) n 90 0 (omega (arith, all_length a 0 (fields n t))))

    pub moment_is_digits : is_digits n (put_moment n a t) 0 ≡ true
    unfolding is_digits
    moment_is_digits =
        let z : 0 + n ≡ n = omega arith in
        rw (in_each 48 57 (put_moment n a t) 0 n moment_digits, z, eq-eqb (get_or (put_moment n a t) n 0) 90 moment_zed)

    pub moment_not_none : is_none n (put_moment n a t) 0 ≡ false
    moment_not_none = not_none n (put_moment n a t) (omega arith) (moment_digits 0 (omega arith))

    field_number : (p m : ℕ) → p + m ≤ n → number_of (put_moment n a t) p m ≡ number_of (put_all a 0 (fields n t)) p m
    field_number p m h = number_cong (put_moment n a t) (put_all a 0 (fields n t)) p p m (λ j l. moment_below (p + j) (omega arith))

    -- A MOMENT READS BACK
    pub moment_back : Bounds t → t.milli < 10 ^ (n - 14) → moment_at n (put_moment n a t) 0 ≡ t
    moment_back b k =
        let r =
        all_read a 0 (fields n t) (omega (arith, fields_end))
        (omega (arith, b.year), (omega (arith, b.month), (omega (arith, b.day), (omega (arith, b.hour), (omega (arith, b.minute), (omega (arith, b.second), (k, tt))))))) in
        sym (moment_read n (put_moment n a t) 0 t.date.year t.date.month t.date.day t.hour t.minute t.second t.milli
        (sym (field_number 0 4 (omega arith) ∙ r.0)) (sym (field_number 4 2 (omega arith) ∙ r.1.0)) (sym (field_number 6 2 (omega arith) ∙ r.1.1.0))
        (sym (field_number 8 2 (omega arith) ∙ r.1.1.1.0)) (sym (field_number 10 2 (omega arith) ∙ r.1.1.1.1.0)) (sym (field_number 12 2 (omega arith) ∙ r.1.1.1.1.1.0))
        (sym (field_number 14 (n - 14) (omega arith) ∙ r.1.1.1.1.1.1.0)))

-- ---- a general time
pub moment_length : (n : ℕ) (a : List ℕ) (t : Moment) → length (put_moment n a t) ≡ length a
unfolding put_moment
moment_length n a t = simp (length-set, digits_length)

-- THE LENGTH STAYS
pub general_length : (n : ℕ) (a : List ℕ) (t : Option Moment) → length (put_general n a t) ≡ length a
general_length n a None = simp (length-set, x_length)
general_length n a (Some t) = moment_length n a t

-- THE BYTES AFTER THE TIME STAY
pub general_kept : (n : ℕ) (a : List ℕ) (t : Option Moment) (j : ℕ) → 14 ≤ n → n < j → get_or (put_general n a t) j 0 ≡ get_or a j 0
general_kept n a None j l h = get_or-set_other (put_x a n) n j 90 0 (λ e. omega arith) ∙ x_after a n j (omega arith)
general_kept n a (Some t) j l h = moment_kept n a t l j h

none_below : (n : ℕ) (a : List ℕ) (j : ℕ) → n < length a → j < n → get_or (put_none n a) j 0 ≡ 120
none_below n a j h l = get_or-set_other (put_x a n) n j 90 0 (λ e. omega arith) ∙ x_are a n (omega arith) j l

none_zed : (n : ℕ) (a : List ℕ) → n < length a → get_or (put_none n a) n 0 ≡ 90
none_zed n a h = get_or-set_same (put_x a n) n 90 0 (omega (arith, x_length a n))

none_is : (n : ℕ) (a : List ℕ) → n < length a → is_none n (put_none n a) 0 ≡ true
unfolding is_none
none_is n a h =
    let z : 0 + n ≡ n = omega arith in
    let f : (j : ℕ) → j < n → In 120 120 (get_or (put_none n a) (0 + j) 0) = λ j l. let y : 0 + j ≡ j = omega arith in rw y (omega (arith, none_below n a j h l)) in
    rw (in_each 120 120 (put_none n a) 0 n f, z, none_zed n a h)

-- what can be written in n digits
abbrev Fits : ℕ → Option Moment → Type 0
Fits n None = Unit
Fits n (Some t) = (is_moment t ≡ true) × (t.milli < 10 ^ (n - 14))

back_at : (n : ℕ) (a : List ℕ) (t : Option Moment) → 14 ≤ n → n < length a → Fits n t → reads (put_general n a t) 0 (n + 1) (is_general n (put_general n a t) 0) (general_at n (put_general n a t) 0) ≡ answer t
back_at n a None l h f =
    rw (le-leb (0 + (n + 1)) (length (put_none n a)) (omega (arith, general_length n a None)), none_is n a h)
back_at n a (Some t) l h f =
    rw (
      le-leb (0 + (n + 1)) (length (put_moment n a t)) (omega (arith, moment_length n a t)),
      moment_not_none n a t l h,
      moment_is_digits n a t l h,
      moment_back n a t l h (moment_bounds t f.0) f.1,
      f.0,
    )

fits_is : (long : Bool) (t : Option Moment) → fits_general long t ≡ true → Fits (digits_of long) t
fits_is long None e = tt
fits_is true (Some t) e = let u = and_true (is_moment t) _ e in (u.0, omega (arith, (moment_bounds t u.0).milli))
fits_is false (Some t) e = let u = and_true (is_moment t) _ e in (u.0, omega (arith, eqb-true t.milli 0 u.1))

pub width_low : (long : Bool) → 14 ≤ digits_of long
width_low true = omega arith
width_low false = omega arith

-- WHAT IS WRITTEN READS BACK
pub general_back : (long : Bool) (a : List ℕ) (t : Option Moment) → fits_general long t ≡ true → digits_of long + 1 ≤ length a → general_read_at long (put_general (digits_of long) a t) 0 ≡ answer t
general_back long a t e h = back_at (digits_of long) a t (width_low long) (omega arith) (fits_is long t e)
