-- The ways out of the module `general`, at the code's own names: each local is a variable with the equation that its call ensures, and
-- the tests that led there decide the definition's conditions. By rewriting, or by cases of two tests. Assumes nothing.
use mathlib.Core.Path.{◌≡◌}
use mathlib.Core.Bool.{Bool, true, false, cond, ◌&&◌}
use mathlib.Core.List.{List}
use Prim.Native.Nat.{ℕ, ◌+◌, ◌-◌, ◌^◌, ◌≤◌, ◌<◌}
use native.Mathlib.Nat.{pow-le-pow_right}
use native.Mathlib.Omega.{arith}
use borrow.Author.Tests.{lt-leb, le-leb}
use lib.Dec.{lit<, eqb, leb}
use lib.ListN.{length, set}
use Rattle.calendar.specs.Said.{Said, answer, refusal, refused}
use Rattle.calendar.specs.declared.Refusal.{Refusal}
use Rattle.calendar.specs.Calendar.{is_date, days_to, has_day, day_number_of}
use Rattle.meter.specs.Lent.{inside, writes, wrote}
use Rattle.std.specs.declared.option.Option.TheVariants.{Some, None}
use Rattle.std.specs.declared.option.Option.{Option}
use Rattle.meter.specs.declared.time.Time.{Time}
use Rattle.meter.specs.Instant as T
use Rattle.meter.specs.declared.general.Moment.{Moment}
use Rattle.meter.specs.General.{digits_of, number_of, each, is_none, is_digits, moment_at, last_second, is_moment, is_general, general_at, general_read_at, put_digits, put_moment, put_none, put_general, fits_general, milli_of, time_of_general, time_of_moment, has_time, text_time_at}
use Rattle.meter.proofs.GeneralRuns.{and_true, each_in, digits_number}

-- ---- digits
pub width_high : (long : Bool) → digits_of long ≤ 17
width_high true = omega arith
width_high false = omega arith

-- ---- moment_at
-- the number of some of the digits
pub part_number : (n : ℕ) (a : List ℕ) (i p m : ℕ) → is_digits n a i ≡ true → i ≤ p → p + m ≤ i + n → number_of a p m < 10 ^ m
unfolding is_digits
part_number n a i p m e l h =
    let u = and_true (each 48 57 a i n) _ e in
    digits_number a p m (λ j k. let q : i + (p - i + j) ≡ p + j = omega arith in rw q at (each_in 48 57 a i n u.0 (p - i + j) (omega arith)))

pub part_small : (n : ℕ) (a : List ℕ) (i p m k : ℕ) → is_digits n a i ≡ true → i ≤ p → p + m ≤ i + n → m ≤ k → number_of a p m < 10 ^ k
part_small n a i p m k e l h s = omega (arith, part_number n a i p m e l h, pow-le-pow_right {n = 10} (lit< tt) {i = m} {j = k} s)

-- ---- is_moment
pub moment_last : (t : Moment) (l : ℕ) → is_date t.date ≡ true → t.hour ≤ 23 → t.minute ≤ 59 → l ≡ last_second t.date t.hour t.minute → t.second ≤ l → leb t.milli 999 ≡ is_moment t
unfolding is_moment
moment_last t l d h m e s = rw (d, le-leb t.hour 23 h, le-leb t.minute 59 m, ← e, le-leb t.second l s)

-- ---- fits_general
module _ (long : Bool) (time : Option Moment) (t : Moment) (e : time ≡ Some t) where
  pub fits_no : is_moment t ≡ false → false ≡ fits_general long time
  fits_no m = rw (e, m)

  pub fits_long : is_moment t ≡ true → long ≡ true → true ≡ fits_general long time
  fits_long m l = rw (e, m, l)

  pub fits_short : is_moment t ≡ true → long ≡ false → eqb t.milli 0 ≡ fits_general long time
  fits_short m l = rw (e, m, l)

-- ---- read_general
module _ (long : Bool) (a : List ℕ) (at n : ℕ) (en : n ≡ digits_of long) where
  pub read_short : leb (at + (n + 1)) (length a) ≡ false → refusal 20 (length a) ≡ general_read_at long a at
  read_short h = rw (← en, h)

  pub read_none : leb (at + (n + 1)) (length a) ≡ true → is_none n a at ≡ true → answer None ≡ general_read_at long a at
  read_none h x = rw (← en, h, x)

  pub read_no_digits : leb (at + (n + 1)) (length a) ≡ true → is_none n a at ≡ false → is_digits n a at ≡ false → refusal 21 0 ≡ general_read_at long a at
  read_no_digits h x d = rw (← en, h, x, d)

  pub read_no_moment : leb (at + (n + 1)) (length a) ≡ true → is_none n a at ≡ false → is_digits n a at ≡ true → (t : Moment) → t ≡ moment_at n a at → is_moment t ≡ false → refusal 21 0 ≡ general_read_at long a at
  read_no_moment h x d t e m = rw (← en, h, x, d, ← e, m)

  pub read_moment : leb (at + (n + 1)) (length a) ≡ true → is_none n a at ≡ false → is_digits n a at ≡ true → (t : Moment) → t ≡ moment_at n a at → is_moment t ≡ true → answer (Some t) ≡ general_read_at long a at
  read_moment h x d t e m = rw (← en, h, x, d, ← e, m)

-- ---- time_of and text_time: what read_general and day_number said, handed on
moved : {A B : Type 0} (n p m q : ℕ) → ◌≡◌ {A = Said A} (refusal n p) (refusal m q) → ◌≡◌ {A = Said B} (refusal n p) (refusal m q)
moved n p m q e = let u : n ≡ m = cc in let v : p ≡ q = cc in rw (u, v)

module _ (len : ℕ) (g : Option Moment) where
  pub on_refused : (i b : Bool) (x : Refusal) → refused x ≡ cond i (cond b (answer g) (refusal 21 0)) (refusal 20 len) → refused x ≡ cond i (cond (b && has_time g) (answer (time_of_general g)) (refusal 21 0)) (refusal 20 len)
  on_refused true true x e = let z : ◌≡◌ {A = ℕ} 0 1 = cc in absurd (omega arith)
  on_refused true false x e = moved x.number x.place 21 0 e
  on_refused false b x e = moved x.number x.place 20 len e

  pub on_answer : (i b : Bool) (h : Option Moment) → answer h ≡ cond i (cond b (answer g) (refusal 21 0)) (refusal 20 len) → cond (has_time h) (answer (time_of_general h)) (refusal 21 0) ≡ cond i (cond (b && has_time g) (answer (time_of_general g)) (refusal 21 0)) (refusal 20 len)
  on_answer true true h e = let q : h ≡ g = cc in rw q
  on_answer true false h e = let z : ◌≡◌ {A = ℕ} 0 1 = cc in absurd (omega arith)
  on_answer false b h e = let z : ◌≡◌ {A = ℕ} 0 1 = cc in absurd (omega arith)

pub text_refused : (a : List ℕ) (at : ℕ) (x : Refusal) → refused x ≡ general_read_at true a at → refused x ≡ text_time_at a at
text_refused a at x e = on_refused (length a) (general_at 17 a at) (inside a at 18) (is_general 17 a at) x e

pub text_answer : (a : List ℕ) (at : ℕ) (h : Option Moment) → answer h ≡ general_read_at true a at → cond (has_time h) (answer (time_of_general h)) (refusal 21 0) ≡ text_time_at a at
text_answer a at h e = on_answer (length a) (general_at 17 a at) (inside a at 18) (is_general 17 a at) h e

day_refused : (b : Bool) (n : ℕ) (t : Option Time) (x : Refusal) → refused x ≡ cond b (answer n) (refusal 21 0) → refused x ≡ cond b (answer t) (refusal 21 0)
day_refused true n t x e = let z : ◌≡◌ {A = ℕ} 0 1 = cc in absurd (omega arith)
day_refused false n t x e = moved x.number x.place 21 0 e

day_answer : (b : Bool) (n m d : ℕ) → answer d ≡ cond b (answer n) (refusal 21 0) → answer (T.At d m) ≡ cond b (answer (T.At n m)) (refusal 21 0)
day_answer true n m d e = let q : d ≡ n = cc in rw q
day_answer false n m d e = let z : ◌≡◌ {A = ℕ} 0 1 = cc in absurd (omega arith)

pub day_none : (t : Moment) (x : Refusal) → refused x ≡ day_number_of t.date → refused x ≡ time_of_moment (Some t)
day_none t x k = day_refused (has_day t.date) (days_to t.date) (time_of_general (Some t)) x k

pub day_some : (t : Moment) (d m : ℕ) → answer d ≡ day_number_of t.date → m ≡ milli_of t → answer (T.At d m) ≡ time_of_moment (Some t)
day_some t d m k s = rw s (day_answer (has_day t.date) (days_to t.date) (milli_of t) d k)

-- ---- put_moment
module _ (n : ℕ) (a : List ℕ) (t : Moment) (b1 b2 b3 b4 b5 b6 b7 : List ℕ) (e1 : b1 ≡ put_digits a 0 4 t.date.year) (e2 : b2 ≡ put_digits b1 4 2 t.date.month) (e3 : b3 ≡ put_digits b2 6 2 t.date.day) (e4 : b4 ≡ put_digits b3 8 2 t.hour) (e5 : b5 ≡ put_digits b4 10 2 t.minute) (e6 : b6 ≡ put_digits b5 12 2 t.second) (e7 : b7 ≡ put_digits b6 14 (n - 14) t.milli) where
  pub moment_put : set b7 n 90 ≡ put_moment n a t
  unfolding put_moment
  moment_put = rw (e7, e6, e5, e4, e3, e2, e1)

-- ---- write_general
pub put_undefined : (n : ℕ) (a : List ℕ) (time : Option Moment) → time ≡ None → put_none n a ≡ put_general n a time
put_undefined n a time e = rw e

pub put_at : (n : ℕ) (a : List ℕ) (time : Option Moment) (t : Moment) → time ≡ Some t → put_moment n a t ≡ put_general n a time
put_at n a time t e = rw e

module _ (room : List ℕ) (long : Bool) (time : Option Moment) (n : ℕ) (en : n ≡ digits_of long) (f : Bool) (ef : f ≡ fits_general long time) where
  pub write_wrong : f ≡ false → (refusal 21 0 ≡ writes room (digits_of long + 1) (fits_general long time)) × (room ≡ wrote room (digits_of long + 1) (fits_general long time) (put_general (digits_of long) room time))
  write_wrong h = (rw (← ef, h), rw (← ef, h))

  pub write_small : f ≡ true → length room < n + 1 → (refusal 18 (n + 1) ≡ writes room (digits_of long + 1) (fits_general long time)) × (room ≡ wrote room (digits_of long + 1) (fits_general long time) (put_general (digits_of long) room time))
  write_small h l = (rw (← ef, h, ← en, lt-leb (n + 1) (length room) l), rw (← ef, h, ← en, lt-leb (n + 1) (length room) l))

  pub write_done : f ≡ true → n + 1 ≤ length room → (b : List ℕ) → b ≡ put_general n room time → (answer (n + 1) ≡ writes room (digits_of long + 1) (fits_general long time)) × (b ≡ wrote room (digits_of long + 1) (fits_general long time) (put_general (digits_of long) room time))
  write_done h l b e = (rw (← ef, h, ← en, le-leb (n + 1) (length room) l), rw (← ef, h, ← en, le-leb (n + 1) (length room) l) e)
