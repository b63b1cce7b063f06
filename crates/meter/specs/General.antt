-- Generalised times (01, "MPHR": "A time is YYYYMMDDHHMMSSZ, with three millisecond digits before Z when long; Gregorian calendar,
-- years 0000 to 9999, seconds 00..59"; 002, 2.2.2.1 and 2.2.2.2, for the undefined spelling). Assumes nothing.
use Rattle.std.specs.Prelude.{ℕ, zero, suc, ◌+◌, ◌-◌, ◌*◌, ◌/◌, ◌%◌, min, ◌≡◌, Bool, true, cond, ◌&&◌, ◌||◌, List, eqb, leb, get_or, set}
use Rattle.calendar.specs.Said.{Said, answer, refusal}
use Rattle.calendar.specs.Calendar.{date, is_date, date_of, days_to, has_day, leap_date}
use Rattle.calendar.specs.declared.Date.{Date}
use Rattle.std.specs.declared.option.Option.TheVariants.{Some, None}
use Rattle.std.specs.declared.option.Option.{Option}
use Rattle.std.specs.declared.result.Result.{Result}
use Rattle.calendar.specs.declared.Refusal.{Refusal}
use Rattle.meter.specs.declared.time.Time.{Time}
use Rattle.meter.specs.Instant as T
use Rattle.calendar.specs.Said.{said}
use Rattle.meter.specs.Time.{is_time}
use Rattle.meter.specs.Lent.{reads, Writes}
use Rattle.meter.specs.declared.general.Moment.{Moment}

-- how many digits stand before the Z: 14, or 17 with the millisecond
abbrev pub digits_of : Bool → ℕ
digits_of long = cond long 17 14

-- how many numbers from 0 on pass p, up to the first that does not, and up to n
unfoldable pub lead : (ℕ → Bool) → ℕ → ℕ
lead p zero = 0
lead p (suc n) = cond (p 0) (suc (lead (λ (j : ℕ). p (suc j)) n)) 0

abbrev pub within : ℕ → ℕ → ℕ → Bool
within lo hi x = leb lo x && leb x hi

-- how many of the n bytes from i on are lo to hi, up to the first that is not
unfoldable pub run_of : ℕ → ℕ → List ℕ → ℕ → ℕ → ℕ
run_of lo hi a i n = lead (λ (j : ℕ). within lo hi (get_or a (i + j) 0)) n

-- each of them is
abbrev pub each : ℕ → ℕ → List ℕ → ℕ → ℕ → Bool
each lo hi a i n = eqb (run_of lo hi a i n) n

-- the number of n digits: each counts ten times the one after it
unfoldable pub number_of : List ℕ → ℕ → ℕ → ℕ
number_of a i zero = 0
number_of a i (suc n) = number_of a i n * 10 + (get_or a (i + n) 0 - 48)

-- undefined: x's, and at the end x (01) or Z (002)
unfoldable pub is_none : ℕ → List ℕ → ℕ → Bool
is_none n a i = each 120 120 a i n && (eqb (get_or a (i + n) 0) 120 || eqb (get_or a (i + n) 0) 90)

-- n digits and Z
unfoldable pub is_digits : ℕ → List ℕ → ℕ → Bool
is_digits n a i = each 48 57 a i n && eqb (get_or a (i + n) 0) 90

-- YYYYMMDDHHMMSS, and the millisecond where there are 17 digits
unfoldable pub moment_at : ℕ → List ℕ → ℕ → Moment
moment_at n a i =
    record {
      date = date (number_of a i 4) (number_of a (i + 4) 2) (number_of a (i + 6) 2);
      hour = number_of a (i + 8) 2;
      minute = number_of a (i + 10) 2;
      second = number_of a (i + 12) 2;
      milli = number_of a (i + 14) (n - 14);
    }

-- the greatest second of a minute (02, request Two: "a written time may carry second 60 at 23:59 of those dates")
unfoldable pub last_second : Date → ℕ → ℕ → ℕ
last_second x hour minute = cond (eqb hour 23 && (eqb minute 59 && leap_date x)) 60 59

-- a moment of the calendar
unfoldable pub is_moment : Moment → Bool
is_moment t =
    is_date t.date
    && (leb t.hour 23 && (leb t.minute 59 && (leb t.second (last_second t.date t.hour t.minute) && leb t.milli 999)))

-- the n digits and the last byte from i on are a time
abbrev pub is_general : ℕ → List ℕ → ℕ → Bool
is_general n a i = is_none n a i || (is_digits n a i && is_moment (moment_at n a i))

abbrev pub general_at : ℕ → List ℕ → ℕ → Option Moment
general_at n a i = cond (is_none n a i) None (Some (moment_at n a i))

-- THE READER
abbrev pub general_read_at : Bool → List ℕ → ℕ → Said (Option Moment)
general_read_at long a at = reads a at (digits_of long + 1) (is_general (digits_of long) a at) (general_at (digits_of long) a at)

-- ---- writing, at the start of the room
-- a with the last n digits of v from i on
unfoldable pub put_digits : List ℕ → ℕ → ℕ → ℕ → List ℕ
put_digits a i zero v = a
put_digits a i (suc n) v = put_digits (set a (i + n) (48 + v % 10)) i n (v / 10)

-- a with the date, the hour, the minute and the second of t as 14 digits, the millisecond as n - 14, and Z
unfoldable pub put_moment : ℕ → List ℕ → Moment → List ℕ
put_moment n a t =
    set
    (put_digits
    (put_digits
    (put_digits
    (put_digits (put_digits (put_digits (put_digits a 0 4 t.date.year) 4 2 t.date.month) 6 2 t.date.day) 8 2 t.hour)
    10
    2
    t.minute)
    12
    2
    t.second)
    14
    (n - 14)
    t.milli)
    n
    90

-- a with n times x
unfoldable pub put_x : List ℕ → ℕ → List ℕ
put_x a zero = a
put_x a (suc n) = put_x (set a n 120) n

-- 002's spelling of an undefined time
abbrev pub put_none : ℕ → List ℕ → List ℕ
put_none n a = set (put_x a n) n 90

abbrev pub put_general : ℕ → List ℕ → Option Moment → List ℕ
put_general n a None = put_none n a
put_general n a (Some t) = put_moment n a t

-- what can be written: a moment, and with no millisecond in the short form
abbrev pub fits_general : Bool → Option Moment → Bool
fits_general long None = true
fits_general long (Some t) = is_moment t && (long || eqb t.milli 0)

-- ---- a day and millisecond, and the moment that they are
-- the minute of the day; the extra second is in the last one
abbrev pub minute_of : ℕ → ℕ
minute_of ms = min (ms / 60000) 1439

unfoldable pub moment_of : ℕ → ℕ → Moment
moment_of day ms =
    record { date = date_of day; hour = minute_of ms / 60; minute = minute_of ms % 60; second = ms / 1000 - 60 * minute_of ms; milli = ms % 1000 }

unfoldable pub milli_of : Moment → ℕ
milli_of t = ((t.hour * 60 + t.minute) * 60 + t.second) * 1000 + t.milli

abbrev pub general_of : Option Time → Option Moment
general_of None = None
general_of (Some t) = Some (moment_of t.day t.milli)

abbrev pub time_of_general : Option Moment → Option Time
time_of_general None = None
time_of_general (Some t) = T.At (days_to t.date) (milli_of t)

-- undefined, or a moment of days 0 to 65535
abbrev pub has_time : Option Moment → Bool
has_time None = true
has_time (Some t) = has_day t.date

-- a moment outside those days is refused
abbrev pub time_of_moment : Option Moment → Said (Option Time)
time_of_moment g = cond (has_time g) (answer (time_of_general g)) (refusal 21 0)

-- THE READER of long text: malformed, or a date outside days 0..65535, is refused 21
abbrev pub text_time_at : List ℕ → ℕ → Said (Option Time)
text_time_at a at = reads a at 18 (is_general 17 a at && has_time (general_at 17 a at)) (time_of_general (general_at 17 a at))

-- THE WRITER of text
abbrev pub WritesGeneral : List ℕ → Bool → Option Moment → Result ℕ Refusal → List ℕ → Type 0
WritesGeneral room long t r exit = Writes room (digits_of long + 1) (fits_general long t) (put_general (digits_of long) room t) r exit

-- THE WRITER of a day and millisecond as long text
abbrev pub WritesTimeText : List ℕ → Option Time → Result ℕ Refusal → List ℕ → Type 0
WritesTimeText room t r exit = Writes room 18 (is_time t) (put_general 17 room (general_of t)) r exit

-- AND WHAT IT WROTE READS BACK
abbrev pub TimeTextBack : Option Time → Result ℕ Refusal → List ℕ → Type 0
TimeTextBack t r exit = said r ≡ answer 18 → text_time_at exit 0 ≡ answer t
