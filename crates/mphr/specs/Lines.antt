-- Writing a line of the main header (01, "MPHR": "name padded with spaces to 30, `= `, the value, a line feed"; the last sentence under the
-- table of numbers: "A text to write has exactly its field's width and only bytes 32..126; other texts, undefined size or totals, a negative
-- number in an unsigned field and an invalid time don't fit a line (22)"; "Writers check 22 or 21, then 18"). Assumes nothing.
use Rattle.std.specs.Prelude.{ℕ, zero, suc, ◌+◌, ◌*◌, ◌≡◌, Bool, true, false, cond, ◌&&◌, List, ◌++◌, leb, length, get_or, set, take, drop}
use Rattle.calendar.specs.Said.{Said, answer, refusal}
use Rattle.meter.specs.Lent.{wrote}
use Rattle.std.specs.declared.option.Option.TheVariants.{Some, None}
use Rattle.std.specs.declared.option.Option.{Option}
use Rattle.std.specs.declared.result.Result.{Result}
use Rattle.calendar.specs.declared.Refusal.{Refusal}
use Rattle.std.specs.Prelude.{ℤ}
use Rattle.meter.specs.declared.general.Moment.{Moment}
use Rattle.calendar.specs.Said.{said}
use Rattle.meter.specs.General.{fits_general, put_general, digits_of}
use Rattle.text.specs.Writing.{fits_number, put_number, fits_text, put_text}
use Rattle.text.specs.declared.Kind.{Kind}
use Rattle.text.specs.declared.Kind.TheVariants.{Text, Unsigned, Count, Signed, Time, LongTime}
use Rattle.mphr.specs.Layout.{names, name_of, width_of, kind_of}

-- ---- what fits a line of the kind
unfoldable pub text_fits : Kind → ℕ → List ℕ → Bool
text_fits Text w t = fits_text w t
text_fits Unsigned w t = false
text_fits Count w t = false
text_fits Signed w t = false
text_fits Time w t = false
text_fits LongTime w t = false

-- the size and the totals are never undefined
abbrev pub count_fits : ℕ → Option ℤ → Bool
count_fits w None = false
count_fits w (Some z) = fits_number false w (Some z)

unfoldable pub number_fits : Kind → ℕ → Option ℤ → Bool
number_fits Text w x = false
number_fits Unsigned w x = fits_number false w x
number_fits Count w x = count_fits w x
number_fits Signed w x = fits_number true w x
number_fits Time w x = false
number_fits LongTime w x = false

unfoldable pub time_fits : Kind → Option Moment → Bool
time_fits Text t = false
time_fits Unsigned t = false
time_fits Count t = false
time_fits Signed t = false
time_fits Time t = fits_general false t
time_fits LongTime t = fits_general true t

-- whether the kind is that of the long time
unfoldable pub is_long : Kind → Bool
is_long Text = false
is_long Unsigned = false
is_long Count = false
is_long Signed = false
is_long Time = false
is_long LongTime = true

-- the field's number is 0 to 71, and the value fits it
unfoldable pub text_on : ℕ → List ℕ → Bool
text_on k t = leb k 71 && text_fits (kind_of k) (width_of k) t

unfoldable pub number_on : ℕ → Option ℤ → Bool
number_on k x = leb k 71 && number_fits (kind_of k) (width_of k) x

unfoldable pub time_on : ℕ → Option Moment → Bool
time_on k t = leb k 71 && time_fits (kind_of k) t

-- ---- the line at the start of a
-- a with the first n bytes of the name of field k
unfoldable pub put_name : List ℕ → ℕ → ℕ → List ℕ
put_name a k zero = a
put_name a k (suc n) = put_name (set a n (get_or names (30 * k + n) 0)) k n

-- its name padded to 30, "= ", and a line feed after the value's w bytes
unfoldable pub put_frame : ℕ → ℕ → List ℕ → List ℕ
put_frame k w a = set (set (set (put_name a k 30) 30 61) 31 32) (32 + w) 10

-- and the value between them
abbrev pub put_line : ℕ → (List ℕ → List ℕ) → List ℕ → List ℕ
put_line k put a = take 32 (put_frame k (width_of k) a) ++ put (drop 32 (put_frame k (width_of k) a))

-- ---- THE WRITERS: 22 unless the value fits the field, then 18 with the bytes of the line
abbrev pub writes_line : List ℕ → ℕ → Bool → Said ℕ
writes_line room n right = cond right (cond (leb n (length room)) (answer n) (refusal 18 n)) (refusal 22 0)

-- the answers, and the frame where nothing is refused
abbrev pub BeginsLine : List ℕ → ℕ → Bool → Result ℕ Refusal → List ℕ → Type 0
BeginsLine room k right r exit =
    (said r ≡ writes_line room (width_of k + 33) right) × (exit ≡ wrote room (width_of k + 33) right (put_frame k (width_of k) room))

abbrev pub WritesLine : List ℕ → ℕ → Bool → (List ℕ → List ℕ) → Result ℕ Refusal → List ℕ → Type 0
WritesLine room k right put r exit =
    (said r ≡ writes_line room (width_of k + 33) right) × (exit ≡ wrote room (width_of k + 33) right (put_line k put room))

abbrev pub WritesTextLine : List ℕ → ℕ → List ℕ → Result ℕ Refusal → List ℕ → Type 0
WritesTextLine room k t r exit = WritesLine room k (text_on k t) (λ (a : List ℕ). put_text a t) r exit

abbrev pub WritesNumberLine : List ℕ → ℕ → Option ℤ → Result ℕ Refusal → List ℕ → Type 0
WritesNumberLine room k x r exit = WritesLine room k (number_on k x) (λ (a : List ℕ). put_number (width_of k) a x) r exit

abbrev pub WritesTimeLine : List ℕ → ℕ → Option Moment → Result ℕ Refusal → List ℕ → Type 0
WritesTimeLine room k t r exit = WritesLine room k (time_on k t) (λ (a : List ℕ). put_general (digits_of (is_long (kind_of k))) a t) r exit

-- THE NAME of field k, unpadded, and then what the room held: 22 where the number is not 0..71, then 18 with the bytes of the name
abbrev pub WritesName : List ℕ → ℕ → Result ℕ Refusal → List ℕ → Type 0
WritesName room k r exit =
    (said r ≡ writes_line room (length (name_of k)) (leb k 71))
    × (exit ≡ wrote room (length (name_of k)) (leb k 71) (name_of k ++ drop (length (name_of k)) room))
