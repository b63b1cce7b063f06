-- Short CDS times (01, "Times and scaled numbers": "day from 1 January 2000 (2 bytes), millisecond of day (4 bytes) at most 86,399,999.
-- All 48 bits one: undefined. Order is by day, then millisecond, and is refused 21 if either time is undefined"). Assumes nothing.
use Rattle.std.specs.Prelude.{ℕ, ◌+◌, ◌*◌, ◌/◌, ◌%◌, ◌<◌, ◌≡◌, Bool, true, cond, ◌&&◌, List, eqb, ltb, leb}
use Rattle.calendar.specs.Calendar.{leap_day}
use Rattle.calendar.specs.Said.{Said, answer, refusal}
use Rattle.std.specs.declared.option.Option.TheVariants.{Some, None}
use Rattle.std.specs.declared.cmp.Ordering.TheVariants.{Less, Equal, Greater}
use Rattle.std.specs.declared.option.Option.{Option}
use Rattle.std.specs.declared.result.Result.{Result}
use Rattle.std.specs.declared.cmp.Ordering.{Ordering}
use Rattle.calendar.specs.declared.Refusal.{Refusal}
use Rattle.meter.specs.declared.time.Time.{Time}
use Rattle.meter.specs.Instant as T
use Rattle.calendar.specs.Said.{said}
use Rattle.meter.specs.Lent.{reads, Writes}
use Rattle.meter.specs.Integer.{be_at, stored}

-- the greatest millisecond of a day (02, request Two: on the five days "the millisecond may go up to 86,400,999"; "A day outside the five keeps its
-- limit")
unfoldable pub last_milli : ℕ → ℕ
last_milli day = cond (leap_day day) 86400999 86399999

abbrev pub is_milli : ℕ → ℕ → Bool
is_milli day ms = leb ms (last_milli day)

-- a time is undefined, or a day with a millisecond of that day
abbrev pub is_time : Option Time → Bool
is_time None = true
is_time (Some t) = is_milli t.day t.milli

-- "day from 1 January 2000 (2 bytes)": the day of a time that is defined is of 16 bits
abbrev pub InDays : Option Time → Type 0
InDays None = Unit
InDays (Some t) = t.day < 65536

-- its 48 bits: the day in the first 16, the millisecond in the other 32; all one where it is undefined
abbrev pub bits_of : Option Time → ℕ
bits_of None = 0xffff_ffff_ffff
bits_of (Some t) = t.day * 0x1_0000_0000 + t.milli

abbrev pub time_of : ℕ → Option Time
time_of bits = cond (eqb bits 0xffff_ffff_ffff) None (T.At (bits / 0x1_0000_0000) (bits % 0x1_0000_0000))

-- the time in the 6 bytes from at on
abbrev pub time_at : List ℕ → ℕ → Option Time
time_at a at = time_of (be_at a at 6)

-- THE READER
abbrev pub time_read_at : List ℕ → ℕ → Said (Option Time)
time_read_at a at = reads a at 6 (is_time (time_at a at)) (time_at a at)

-- THE ORDER: by day, then millisecond
abbrev pub order_of : ℕ → ℕ → ℕ → ℕ → Ordering
order_of d m e n = cond (ltb d e) Less (cond (ltb e d) Greater (cond (ltb m n) Less (cond (ltb n m) Greater Equal)))

abbrev pub compared : Option Time → Option Time → Said Ordering
compared (Some t) (Some u) = cond (is_milli t.day t.milli && is_milli u.day u.milli) (answer (order_of t.day t.milli u.day u.milli)) (refusal 21 0)
compared (Some t) None = refusal 21 0
compared None u = refusal 21 0

-- THE WRITER
abbrev pub WritesTime : List ℕ → Option Time → Result ℕ Refusal → List ℕ → Type 0
WritesTime room t r exit = Writes room 6 (is_time t) (stored room 0 6 (bits_of t)) r exit

-- AND WHAT IT WROTE READS BACK (01, "What a proof here has to exclude": "a writer that writes nothing (reading back, demand 2)")
abbrev pub TimeBack : Option Time → Result ℕ Refusal → List ℕ → Type 0
TimeBack t r exit = said r ≡ answer 6 → time_read_at exit 0 ≡ answer t
