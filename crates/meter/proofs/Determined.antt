-- DETERMINED: no second answer, and no second room at exit, fits a promise of this crate. Each answer says one thing of the paper's and
-- is made again from it (`unsaid`), so one shared lemma serves all; a writer's room is an equation. Assumes nothing.
use mathlib.Core.Path.{◌≡◌, refl}
use mathlib.Core.Bool.{Bool}
use mathlib.Core.List.{List}
use Prim.Native.Nat.{ℕ, ◌+◌}
use lib.Dec.{leb}
use lib.IntN.{ℤ}
use Rattle.calendar.specs.Said.{Said, answer, refusal, refusing}
use Rattle.calendar.proofs.Determined.{fixes, only}
use Rattle.meter.specs.Lent.{writes, wrote, Writes}
use Rattle.meter.specs.Integer.{stored, word_of, fits_unsigned, fits_signed, unsigned_at, signed_at, WritesUnsigned, WritesSigned}
use Rattle.meter.specs.Time.{is_time, bits_of, time_read_at, compared, WritesTime}
use Rattle.meter.specs.General.{digits_of, general_read_at, put_general, fits_general, general_of, text_time_at, WritesGeneral, WritesTimeText}
use Rattle.meter.specs.Scaled.{scaled_read_at, fits_scaled, put_scaled, WritesScaled}
use Rattle.meter.specs.Rounding.{rounded_of}
use Rattle.meter.specs.Reading.{reading_of}
use Rattle.std.specs.declared.result.Result.TheVariants.{Ok, Err}
use Rattle.std.specs.declared.option.Option.{Option}
use Rattle.std.specs.declared.result.Result.{Result}
use Rattle.std.specs.declared.cmp.Ordering.{Ordering}
use Rattle.calendar.specs.declared.Refusal.{Refusal}
use Rattle.meter.specs.declared.general.Moment.{Moment}
use Rattle.meter.specs.declared.time.Time.{Time}
use Rattle.meter.specs.declared.scaled.Scaled.{Scaled}
use Rattle.calendar.specs.Said.{said}
use Rattle.meter.specs.declared.scaled.Reading.{Reading}

-- ---- each answer is made again from what it says
abbrev pub unsaid_written : Said ℕ → Result ℕ Refusal
unsaid_written (answer x) = Ok x
unsaid_written (refusal n p) = Err (refusing n p)

pub written_unsaid : (r : Result ℕ Refusal) → unsaid_written (said r) ≡ r
written_unsaid (Ok x) = refl
written_unsaid (Err r) = refl

abbrev unsaid_unsigned : Said ℕ → Result ℕ Refusal
unsaid_unsigned (answer x) = Ok x
unsaid_unsigned (refusal n p) = Err (refusing n p)

unsigned_unsaid : (r : Result ℕ Refusal) → unsaid_unsigned (said r) ≡ r
unsigned_unsaid (Ok x) = refl
unsigned_unsaid (Err r) = refl

abbrev unsaid_signed : Said ℤ → Result ℤ Refusal
unsaid_signed (answer x) = Ok x
unsaid_signed (refusal n p) = Err (refusing n p)

signed_unsaid : (r : Result ℤ Refusal) → unsaid_signed (said r) ≡ r
signed_unsaid (Ok x) = refl
signed_unsaid (Err r) = refl

abbrev unsaid_time : Said (Option Time) → Result (Option Time) Refusal
unsaid_time (answer x) = Ok x
unsaid_time (refusal n p) = Err (refusing n p)

time_unsaid : (r : Result (Option Time) Refusal) → unsaid_time (said r) ≡ r
time_unsaid (Ok x) = refl
time_unsaid (Err r) = refl

abbrev unsaid_order : Said Ordering → Result Ordering Refusal
unsaid_order (answer x) = Ok x
unsaid_order (refusal n p) = Err (refusing n p)

order_unsaid : (r : Result Ordering Refusal) → unsaid_order (said r) ≡ r
order_unsaid (Ok x) = refl
order_unsaid (Err r) = refl

abbrev unsaid_general : Said (Option Moment) → Result (Option Moment) Refusal
unsaid_general (answer x) = Ok x
unsaid_general (refusal n p) = Err (refusing n p)

general_unsaid : (r : Result (Option Moment) Refusal) → unsaid_general (said r) ≡ r
general_unsaid (Ok x) = refl
general_unsaid (Err r) = refl

abbrev unsaid_scaled : Said (Option Scaled) → Result (Option Scaled) Refusal
unsaid_scaled (answer x) = Ok x
unsaid_scaled (refusal n p) = Err (refusing n p)

scaled_unsaid : (r : Result (Option Scaled) Refusal) → unsaid_scaled (said r) ≡ r
scaled_unsaid (Ok x) = refl
scaled_unsaid (Err r) = refl

abbrev unsaid_rounded : Said (Option ℤ) → Result (Option ℤ) Refusal
unsaid_rounded (answer x) = Ok x
unsaid_rounded (refusal n p) = Err (refusing n p)

rounded_unsaid : (r : Result (Option ℤ) Refusal) → unsaid_rounded (said r) ≡ r
rounded_unsaid (Ok x) = refl
rounded_unsaid (Err r) = refl

abbrev unsaid_reading : Said Reading → Result Reading Refusal
unsaid_reading (answer x) = Ok x
unsaid_reading (refusal n p) = Err (refusing n p)

reading_unsaid : (r : Result Reading Refusal) → unsaid_reading (said r) ≡ r
reading_unsaid (Ok x) = refl
reading_unsaid (Err r) = refl

-- ---- the readers
pub unique_holds : (len at n : ℕ) (r s : Bool) → r ≡ leb (at + n) len → s ≡ leb (at + n) len → r ≡ s
unique_holds len at n = only (leb (at + n) len)

pub unique_bits_of : (z : ℤ) (r s : ℕ) → r ≡ word_of z → s ≡ word_of z → r ≡ s
unique_bits_of z = only (word_of z)

pub unique_read_unsigned : (a : List ℕ) (at n : ℕ) (r s : Result ℕ Refusal) → said r ≡ unsigned_at a at n → said s ≡ unsigned_at a at n → r ≡ s
unique_read_unsigned a at n = fixes said unsaid_unsigned unsigned_unsaid (unsigned_at a at n)

pub unique_read_signed : (a : List ℕ) (at n : ℕ) (r s : Result ℤ Refusal) → said r ≡ signed_at a at n → said s ≡ signed_at a at n → r ≡ s
unique_read_signed a at n = fixes said unsaid_signed signed_unsaid (signed_at a at n)

pub unique_read_time : (a : List ℕ) (at : ℕ) (r s : Result (Option Time) Refusal) → said r ≡ time_read_at a at → said s ≡ time_read_at a at → r ≡ s
unique_read_time a at = fixes said unsaid_time time_unsaid (time_read_at a at)

pub unique_time_order : (t u : Option Time) (r s : Result Ordering Refusal) → said r ≡ compared t u → said s ≡ compared t u → r ≡ s
unique_time_order t u = fixes said unsaid_order order_unsaid (compared t u)

pub unique_read_general : (long : Bool) (a : List ℕ) (at : ℕ) (r s : Result (Option Moment) Refusal) → said r ≡ general_read_at long a at → said s ≡ general_read_at long a at → r ≡ s
unique_read_general long a at = fixes said unsaid_general general_unsaid (general_read_at long a at)

pub unique_fits_general : (long : Bool) (t : Option Moment) (r s : Bool) → r ≡ fits_general long t → s ≡ fits_general long t → r ≡ s
unique_fits_general long t = only (fits_general long t)

pub unique_text_time : (a : List ℕ) (at : ℕ) (r s : Result (Option Time) Refusal) → said r ≡ text_time_at a at → said s ≡ text_time_at a at → r ≡ s
unique_text_time a at = fixes said unsaid_time time_unsaid (text_time_at a at)

pub unique_read_scaled : (signed : Bool) (n : ℕ) (a : List ℕ) (at : ℕ) (r s : Result (Option Scaled) Refusal) → said r ≡ scaled_read_at signed n a at → said s ≡ scaled_read_at signed n a at → r ≡ s
unique_read_scaled signed n a at = fixes said unsaid_scaled scaled_unsaid (scaled_read_at signed n a at)

pub unique_round_to : (x : Option Scaled) (d : ℤ) (r s : Result (Option ℤ) Refusal) → said r ≡ rounded_of x d → said s ≡ rounded_of x d → r ≡ s
unique_round_to x d = fixes said unsaid_rounded rounded_unsaid (rounded_of x d)

pub unique_reading_of : (x : Option Scaled) (r s : Result Reading Refusal) → said r ≡ reading_of x → said s ≡ reading_of x → r ≡ s
unique_reading_of x = fixes said unsaid_reading reading_unsaid (reading_of x)

-- ---- the writers: of a room, the answer and the room at exit
pub one_writing : (room : List ℕ) (n : ℕ) (right : Bool) (new : List ℕ) (r s : Result ℕ Refusal) (p q : List ℕ) → Writes room n right new r p → Writes room n right new s q → (r ≡ s) × (p ≡ q)
one_writing room n right new r s p q x y = (fixes said unsaid_written written_unsaid (writes room n right) r s x.0 y.0, only (wrote room n right new) p q x.1 y.1)

pub unique_write_unsigned : (room : List ℕ) (n v : ℕ) (r s : Result ℕ Refusal) (p q : List ℕ) → WritesUnsigned room n v r p → WritesUnsigned room n v s q → (r ≡ s) × (p ≡ q)
unique_write_unsigned room n v = one_writing room n (fits_unsigned n v) (stored room 0 n v)

pub unique_write_signed : (room : List ℕ) (n : ℕ) (z : ℤ) (r s : Result ℕ Refusal) (p q : List ℕ) → WritesSigned room n z r p → WritesSigned room n z s q → (r ≡ s) × (p ≡ q)
unique_write_signed room n z = one_writing room n (fits_signed n z) (stored room 0 n (word_of z))

pub unique_write_time : (room : List ℕ) (t : Option Time) (r s : Result ℕ Refusal) (p q : List ℕ) → WritesTime room t r p → WritesTime room t s q → (r ≡ s) × (p ≡ q)
unique_write_time room t = one_writing room 6 (is_time t) (stored room 0 6 (bits_of t))

pub unique_write_general : (room : List ℕ) (long : Bool) (t : Option Moment) (r s : Result ℕ Refusal) (p q : List ℕ) → WritesGeneral room long t r p → WritesGeneral room long t s q → (r ≡ s) × (p ≡ q)
unique_write_general room long t = one_writing room (digits_of long + 1) (fits_general long t) (put_general (digits_of long) room t)

pub unique_time_text : (room : List ℕ) (t : Option Time) (r s : Result ℕ Refusal) (p q : List ℕ) → WritesTimeText room t r p → WritesTimeText room t s q → (r ≡ s) × (p ≡ q)
unique_time_text room t = one_writing room 18 (is_time t) (put_general 17 room (general_of t))

pub unique_write_scaled : (room : List ℕ) (signed : Bool) (n : ℕ) (x : Option Scaled) (r s : Result ℕ Refusal) (p q : List ℕ) → WritesScaled room signed n x r p → WritesScaled room signed n x s q → (r ≡ s) × (p ≡ q)
unique_write_scaled room signed n x = one_writing room (1 + n) (fits_scaled signed n x) (put_scaled signed n room x)
