-- Writing a field's value at the start of a room (01, "Kinds": "we write it right-justified with spaces, `-` only"; the last sentence under
-- the table of numbers: "A text to write has exactly its field's width and only bytes 32..126"). Assumes nothing.
use Rattle.std.specs.Prelude.{ℕ, zero, suc, ◌+◌, ◌-◌, ◌/◌, ◌%◌, ◌^◌, Bool, true, false, cond, ◌&&◌, List, ◌++◌, eqb, ltb, leb, ℤ, pos, negsuc, nat_abs, length, set, drop}
use Rattle.meter.specs.Lent.{Writes}
use Rattle.meter.specs.General.{put_x}
use Rattle.std.specs.declared.option.Option.TheVariants.{Some, None}
use Rattle.std.specs.declared.option.Option.{Option}
use Rattle.std.specs.declared.result.Result.{Result}
use Rattle.calendar.specs.declared.Refusal.{Refusal}
use Rattle.text.specs.Field.{is_text}

abbrev pub below : ℤ → Bool
below (pos n) = false
below (negsuc n) = true

-- a number that the w bytes of a field can spell: its digits, and a minus before them where it is below 0
abbrev pub spelled : Bool → ℕ → ℤ → Bool
spelled signed w (pos n) = ltb n (10 ^ w)
spelled signed w (negsuc n) = signed && (ltb 1 w && ltb (suc n) (10 ^ (w - 1)))

abbrev pub fits_number : Bool → ℕ → Option ℤ → Bool
fits_number signed w None = ltb 0 w && leb w 17
fits_number signed w (Some z) = (ltb 0 w && leb w 17) && spelled signed w z

-- what stands before the digits that are left: the last of them; where none is left a minus, once; and then a space
abbrev pub mark : Bool → ℕ → ℕ
mark minus v = cond (eqb v 0) (cond minus 45 32) (48 + v % 10)

abbrev pub still : Bool → ℕ → Bool
still minus v = cond (eqb v 0) false minus

-- a with the digits of v at the end of its first n bytes, a minus before them, and spaces before that
unfoldable pub put_rest : List ℕ → ℕ → Bool → ℕ → List ℕ
put_rest a zero minus v = a
put_rest a (suc n) minus v = put_rest (set a n (mark minus v)) n (still minus v) (v / 10)

-- a with z in its first w bytes: at least one digit
abbrev pub put_whole : List ℕ → ℕ → ℤ → List ℕ
put_whole a w z = put_rest (set a (w - 1) (48 + nat_abs z % 10)) (w - 1) (below z) (nat_abs z / 10)

abbrev pub put_number : ℕ → List ℕ → Option ℤ → List ℕ
put_number w a None = put_x a w
put_number w a (Some z) = put_whole a w z

-- a text fits a field of its own width, of bytes 32 to 126
abbrev pub fits_text : ℕ → List ℕ → Bool
fits_text w t = eqb (length t) w && is_text t 0 w

abbrev pub put_text : List ℕ → List ℕ → List ℕ
put_text a t = t ++ drop (length t) a

-- ---- THE WRITERS
abbrev pub WritesNumber : List ℕ → ℕ → Bool → Option ℤ → Result ℕ Refusal → List ℕ → Type 0
WritesNumber room w signed x r exit = Writes room w (fits_number signed w x) (put_number w room x) r exit

abbrev pub WritesText : List ℕ → ℕ → List ℕ → Result ℕ Refusal → List ℕ → Type 0
WritesText room w t r exit = Writes room w (fits_text w t) (put_text room t) r exit
