-- Short times and long text: a moment of a day is the day's date and a time of the clock, so a time that is written reads back as the
-- same time, and text that is read as a time is written again byte for byte. By the calendar's laws and the clock's arithmetic.
-- Assumes nothing.
use mathlib.Core.Path.{◌≡◌, refl, sym, ap, ◌∙◌}
use mathlib.Core.Bool.{Bool, true, false, cond, ◌&&◌, ◌||◌}
use mathlib.Core.List.{List}
use Prim.Native.Nat.{ℕ, ◌+◌, ◌/◌, ◌%◌, ◌≤◌, ◌<◌, ◌-◌, ◌*◌}
use native.Mathlib.Decide.{dec_lt}
use native.Mathlib.Omega.{arith}
use borrow.Author.Tests.{le-leb, leb-true, eqb-true, eq-eqb}
use lib.Dec.{leb, eqb}
use lib.ListN.{length, get_or}
use Rattle.calendar.specs.Said.{Said, answer, refusal}
use Rattle.calendar.specs.declared.Date.{Date}
use Rattle.calendar.specs.Calendar.{is_date, date_of, days_to, has_day, leap_day, leap_date}
use Rattle.calendar.proofs.Dates.{date_number, number_date, date_valid, has_day_lem, year_low}
use Rattle.meter.specs.Lent.{inside, writes, wrote}
use Rattle.meter.specs.Time.{last_milli, is_milli, is_time, InDays}
use Rattle.std.specs.declared.option.Option.TheVariants.{Some, None}
use Rattle.std.specs.declared.option.Option.{Option}
use Rattle.meter.specs.declared.time.Time.{Time}
use Rattle.meter.specs.Instant as T
use Rattle.meter.specs.declared.general.Moment.{Moment}
use Rattle.meter.specs.General.{each, is_none, is_digits, moment_at, last_second, is_moment, put_moment, put_general, fits_general, moment_of, milli_of, general_of, time_of_general, has_time, text_time_at, minute_of}
use Rattle.meter.proofs.GeneralRuns.{and_true, Digits, each_in, digits_same, whole_is, whole_of}
use Rattle.meter.proofs.GeneralWrite.{Bounds, moment_bounds, moment_digits, moment_zed, moment_back, general_back}
use Rattle.meter.proofs.GeneralCode.{text_answer}

-- ---- the clock
-- THE MILLISECOND OF A MOMENT, and back
pub milli_back : (d m : ℕ) → milli_of (moment_of d m) ≡ m
unfolding milli_of moment_of
milli_back d m = omega arith

pub moment_of_milli : (t : Moment) (d : ℕ) → Bounds t → date_of d ≡ t.date → moment_of d (milli_of t) ≡ t
unfolding milli_of moment_of
moment_of_milli t d b e = same e (omega (arith, minute)) (omega (arith, minute)) (omega (arith, minute)) (omega (arith, b))
  where
    -- the minute of the day, also in the extra second
    minute : minute_of (milli_of t) ≡ t.hour * 60 + t.minute
    minute = elim (dec_lt 59 t.second) [ yes l ↦ omega (arith, b, b.extra l) | no l ↦ omega (arith, b, l) ]

    same : {x : Date} {h m s k : ℕ} → x ≡ t.date → h ≡ t.hour → m ≡ t.minute → s ≡ t.second → k ≡ t.milli → ◌≡◌ {A = Moment} (record { date = x; hour = h; minute = m; second = s; milli = k }) t
    same ex eh em es ek = rw (ex, eh, em, es, ek)

-- a millisecond of a day is a moment
-- its second is one of its minute: the 60th where the millisecond is past those of other days
leap_second : (d m : ℕ) → d < 65536 → m ≤ last_milli d → m / 1000 - 60 * minute_of m ≤ last_second (date_of d) (minute_of m / 60) (minute_of m % 60)
unfolding last_second last_milli leap_date
leap_second d m l h = go (dec_lt m 86400000) (leap_day d) refl h
  where
    date-leap : leap_day d ≡ true → (has_day (date_of d) && leap_day (days_to (date_of d))) ≡ true
    date-leap e = rw (has_day_lem (date_of d) (date_valid d l) (year_low d) (omega (arith, number_date d)), number_date d) e

    least : (b : Bool) → 59 ≤ cond b 60 59
    least true = omega arith
    least false = omega arith

    go : Dec (m < 86400000) → (b : Bool) → leap_day d ≡ b → m ≤ cond b 86400999 86399999 → m / 1000 - 60 * minute_of m ≤ cond (eqb (minute_of m / 60) 23 && (eqb (minute_of m % 60) 59 && (has_day (date_of d) && leap_day (days_to (date_of d))))) 60 59
    go (yes k) b e h = omega (arith, least (eqb (minute_of m / 60) 23 && (eqb (minute_of m % 60) 59 && (has_day (date_of d) && leap_day (days_to (date_of d))))))
    go (no k) false e h = absurd (omega (arith, k))
    go (no k) true e h =
        let q : minute_of m ≡ 1439 = omega (arith, k) in
        rw (eq-eqb (minute_of m / 60) 23 (omega arith), eq-eqb (minute_of m % 60) 59 (omega arith), date-leap e) (omega arith)

pub moment_valid : (d m : ℕ) → d < 65536 → m ≤ last_milli d → is_moment (moment_of d m) ≡ true
unfolding is_moment moment_of
moment_valid d m l h =
    rw (
      date_valid d l,
      le-leb (minute_of m / 60) 23 (omega arith),
      le-leb (minute_of m % 60) 59 (omega arith),
      le-leb (m / 1000 - 60 * minute_of m) (last_second (date_of d) (minute_of m / 60) (minute_of m % 60)) (leap_second d m l h),
      le-leb (m % 1000) 999 (omega arith),
    )

-- ---- time_text, in the code's names
pub moment_fits : (d m : ℕ) → d < 65536 → is_milli d m ≡ true → fits_general true (Some (moment_of d m)) ≡ true
moment_fits d m l h = rw (moment_valid d m l (leb-true m (last_milli d) h))

-- what time_text answers, by what write_general did with the moment g
pub text_written : (room : List ℕ) (time : Option Time) (g : Option Moment) (r : Said ℕ) (b : List ℕ) → is_time time ≡ true → g ≡ general_of time → fits_general true g ≡ true → (r ≡ writes room 18 (fits_general true g)) × (b ≡ wrote room 18 (fits_general true g) (put_general 17 room g)) → (r ≡ writes room 18 (is_time time)) × (b ≡ wrote room 18 (is_time time) (put_general 17 room (general_of time)))
text_written room time g r b t e f p = (
  p.0 ∙ ap (writes room 18) (f ∙ sym t),
  p.1 ∙ ap (λ (x : Bool). wrote room 18 x (put_general 17 room g)) (f ∙ sym t) ∙ ap (λ (x : Option Moment). wrote room 18 (is_time time) (put_general 17 room x)) e,
)

-- ---- TIME TO TEXT TO TIME
of_date : (d m : ℕ) → (moment_of d m).date ≡ date_of d
unfolding moment_of
of_date d m = refl

pub time_text_back : (a : List ℕ) (t : Option Time) → is_time t ≡ true → InDays t → 18 ≤ length a → text_time_at (put_general 17 a (general_of t)) 0 ≡ answer t
time_text_back a None e l h = sym (text_answer (put_general 17 a None) 0 None (sym (general_back true a None refl h)))
time_text_back a (Some t) e l h =
    let g = Some (moment_of t.day t.milli) in
    let has : has_day (moment_of t.day t.milli).date ≡ true = rw (of_date t.day t.milli) (has_day_lem (date_of t.day) (date_valid t.day l) (year_low t.day) (omega (arith, number_date t.day))) in
    let day : days_to (moment_of t.day t.milli).date ≡ t.day = rw (of_date t.day t.milli) (number_date t.day) in
    sym (text_answer (put_general 17 a g) 0 g (sym (general_back true a g (moment_fits t.day t.milli l e) h))) ∙ rw (has, day, milli_back t.day t.milli)

-- ---- TEXT TO TIME TO TEXT
-- the text of a moment is determined by its 17 digits and the Z
pub text_same :
    (b c : List ℕ) (i k : ℕ) → Digits b i 17 → Digits c k 17 → get_or b (i + 17) 0 ≡ 90 → get_or c (k + 17) 0 ≡ 90 → moment_at 17 b i ≡ moment_at 17 c k
    → (j : ℕ) → j < 18 → get_or b (i + j) 0 ≡ get_or c (k + j) 0
text_same b c i k f g y z e j h = go (dec_lt j 17)
  where
    go : Dec (j < 17) → get_or b (i + j) 0 ≡ get_or c (k + j) 0
    go (yes l) = digits_same b c i k 17 f g (whole_is b i ∙ ap whole_of e ∙ sym (whole_is c k)) j l
    go (no l) = let q : j ≡ 17 = omega (arith, l) in rw q (y ∙ sym z)

pub put_same : (a room : List ℕ) (at : ℕ) (t : Moment) → 18 ≤ length room → is_digits 17 a at ≡ true → moment_at 17 a at ≡ t → is_moment t ≡ true → (j : ℕ) → j < 18 → get_or (put_moment 17 room t) j 0 ≡ get_or a (at + j) 0
unfolding is_digits
put_same a room at t h d e m j l =
    let u = and_true (each 48 57 a at 17) _ d in
    let b = moment_bounds t m in
    let z : 0 + j ≡ j = omega arith in
    let s = text_same (put_moment 17 room t) a 0 at (moment_digits 17 room t (omega arith) (omega arith)) (each_in 48 57 a at 17 u.0) (moment_zed 17 room t (omega arith) (omega arith)) (eqb-true (get_or a (at + 17) 0) 90 u.1) (moment_back 17 room t (omega arith) (omega arith) b (omega (arith, b)) ∙ sym e) j l in
    rw z at s

-- what text that is read as a time has
record TextOf (x d m c : Bool) (t : Moment) (day ms : ℕ) : Type 0 where
  digits : d ≡ true
  moment : m ≡ true
  dated : c ≡ true
  day_is : days_to t.date ≡ day
  milli_is : milli_of t ≡ ms

-- the day and the millisecond of a time that an answer tells
abbrev day_said : Said (Option Time) → ℕ
day_said (answer (Some t)) = t.day
day_said (answer None) = 0
day_said (refusal n p) = 0

abbrev milli_said : Said (Option Time) → ℕ
milli_said (answer (Some t)) = t.milli
milli_said (answer None) = 0
milli_said (refusal n p) = 0

text_of : (i x d m : Bool) (t : Moment) (len day ms : ℕ) → cond i (cond ((x || (d && m)) && has_time (cond x None (Some t))) (answer (time_of_general (cond x None (Some t)))) (refusal 21 0)) (refusal 20 len) ≡ answer (T.At day ms) → TextOf x d m (has_day t.date) t day ms
text_of true true d m t len day ms e = let z : ◌≡◌ {A = ℕ} 0 1 = cc in absurd (omega arith)
text_of true false true true t len day ms e = go (has_day t.date) e
  where
    go : (c : Bool) → cond c (answer (T.At (days_to t.date) (milli_of t))) (refusal 21 0) ≡ answer (T.At day ms) → TextOf false true true c t day ms
    go true e = let u : days_to t.date ≡ day = ap day_said e in let v : milli_of t ≡ ms = ap milli_said e in record { digits = refl; moment = refl; dated = refl; day_is = u; milli_is = v }
    go false e = let z : ◌≡◌ {A = ℕ} 0 1 = cc in absurd (omega arith)
text_of true false true false t len day ms e = let z : ◌≡◌ {A = ℕ} 0 1 = cc in absurd (omega arith)
text_of true false false m t len day ms e = let z : ◌≡◌ {A = ℕ} 0 1 = cc in absurd (omega arith)
text_of false x d m t len day ms e = let z : ◌≡◌ {A = ℕ} 0 1 = cc in absurd (omega arith)

-- a date with a day number is that day's
day_date : (x : Date) (n : ℕ) → has_day x ≡ true → days_to x ≡ n → date_of n ≡ x
unfolding has_day
day_date x n h e =
    let u = and_true (is_date x) _ h in
    let v = and_true (leb 2000 x.year) _ u.1 in
    rw (← e) (date_number x u.0 (leb-true 2000 x.year v.0))

pub text_time_back : (a room : List ℕ) (at d m : ℕ) → 18 ≤ length room → text_time_at a at ≡ answer (T.At d m) → (j : ℕ) → j < 18 → get_or (put_general 17 room (general_of (T.At d m))) j 0 ≡ get_or a (at + j) 0
text_time_back a room at d m h e j l =
    let t = moment_at 17 a at in
    let r = text_of (inside a at 18) (is_none 17 a at) (is_digits 17 a at) (is_moment t) t (length a) d m e in
    let q : moment_of d m ≡ t = rw (← r.milli_is) (moment_of_milli t d (moment_bounds t r.moment) (day_date t.date d r.dated r.day_is)) in
    rw q (put_same a room at t h r.digits refl r.moment j l)
