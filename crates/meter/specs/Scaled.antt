-- Scaled numbers (01, "Times and scaled numbers": "a signed scale byte s, then a signed or unsigned integer I of 2, 4 or 8 bytes: I / 10^s.
-- Undefined is the lowest signed or highest unsigned I, whatever s. Otherwise accepted: s 0..15, I below 2^63"; 02, request Five: "Accept s
-- from -15 to 15; the number is then I times 10^-s"). Assumes nothing.
use Rattle.std.specs.Prelude.{ℕ, suc, ◌+◌, ◌-◌, ◌^◌, Bool, true, false, cond, not, ◌&&◌, ◌||◌, List, eqb, leb, ℤ, pos, negsuc, nat_abs, ◌*ℤ◌, get_or}
use Rattle.std.specs.Int.Signed.{lt_z, le_z}
use Rattle.calendar.specs.Said.{Said, answer, refusal}
use Rattle.std.specs.declared.option.Option.TheVariants.{Some, None}
use Rattle.std.specs.declared.option.Option.{Option}
use Rattle.std.specs.declared.result.Result.{Result}
use Rattle.calendar.specs.declared.Refusal.{Refusal}
use Rattle.meter.specs.declared.scaled.Scaled.{Scaled}
use Rattle.meter.specs.Numeral as S
use Rattle.meter.specs.Lent.{reads, Writes}
use Rattle.meter.specs.Integer.{be_at, stored, twos, word_of, is_width, top_of, half_of}

-- the allowed scales: -15 to 15
unfoldable pub is_scale : ℤ → Bool
is_scale s = leb (nat_abs s) 15

-- ---- THE NUMBER that I and s stand for, over unbounded integers: a fraction
pub record Fraction : Type 0 where
  pub above : ℤ
  pub below : ℕ

-- I / 10 ^ s
abbrev pub divided : ℤ → ℕ → Fraction
divided i s = record { above = i; below = 10 ^ s }

-- I times 10 ^ k
abbrev pub multiplied : ℤ → ℕ → Fraction
multiplied i k = record { above = i *ℤ pos (10 ^ k); below = 1 }

-- by the sign of s
abbrev pub stands_for : ℤ → ℤ → Fraction
stands_for i (pos s) = divided i s
stands_for i (negsuc s) = multiplied i (suc s)

-- the lowest and the highest integer of n bytes
unfoldable pub lowest : Bool → ℕ → ℤ
lowest signed n = cond signed (negsuc (half_of n - 1)) (pos 0)

unfoldable pub highest : Bool → ℕ → ℤ
highest signed n = cond signed (pos (half_of n - 1)) (pos (top_of n))

-- the undefined integer: the lowest signed, the highest unsigned
unfoldable pub none_of : Bool → ℕ → ℤ
none_of signed n = cond signed (lowest true n) (highest false n)

abbrev pub same : ℤ → ℤ → Bool
same i j = le_z i j && le_z j i

-- ---- reading
-- the integer that n bytes with the number v stand for
unfoldable pub integer_of : Bool → ℕ → ℕ → ℤ
integer_of signed n v = cond signed (twos (half_of n) v) (pos v)

abbrev pub is_none : Bool → ℕ → ℕ → Bool
is_none signed n v = same (integer_of signed n v) (none_of signed n)

-- a defined integer: its scale is allowed and it is below 2 ^ 63
abbrev pub is_defined : Bool → ℕ → ℕ → ℤ → Bool
is_defined signed n v s = is_scale s && lt_z (integer_of signed n v) (pos 0x8000_0000_0000_0000)

abbrev pub scaled_of : Bool → ℕ → ℕ → ℤ → Option Scaled
scaled_of signed n v s = cond (is_none signed n v) None (S.Number (integer_of signed n v) s)

abbrev pub is_scaled : Bool → ℕ → ℕ → ℤ → Bool
is_scaled signed n v s = is_width n && (is_none signed n v || is_defined signed n v s)

-- the scale byte at at, and the number of the n bytes after it
abbrev pub scale_at : List ℕ → ℕ → ℤ
scale_at a at = twos 128 (get_or a at 0)

-- THE READER
abbrev pub scaled_read_at : Bool → ℕ → List ℕ → ℕ → Said (Option Scaled)
scaled_read_at signed n a at =
    reads a at (1 + n) (is_scaled signed n (be_at a (at + 1) n) (scale_at a at)) (scaled_of signed n (be_at a (at + 1) n) (scale_at a at))

-- ---- writing
-- an integer in its width, not the undefined one, below 2 ^ 63, with an allowed scale
unfoldable pub fits_defined : Bool → ℕ → ℤ → ℤ → Bool
fits_defined signed n i s =
    is_scale s && (((le_z (lowest signed n) i && le_z i (highest signed n)) && not (same i (none_of signed n))) && lt_z i (pos 0x8000_0000_0000_0000))

abbrev pub fits_scaled : Bool → ℕ → Option Scaled → Bool
fits_scaled signed n None = is_width n
fits_scaled signed n (Some t) = is_width n && fits_defined signed n t.integer t.scale

-- a with the scale byte and the n bytes of the integer at its start; undefined is written with scale 0
abbrev pub put_scaled : Bool → ℕ → List ℕ → Option Scaled → List ℕ
put_scaled signed n a None = stored (stored a 0 1 0) 1 n (word_of (none_of signed n))
put_scaled signed n a (Some t) = stored (stored a 0 1 (word_of t.scale)) 1 n (word_of t.integer)

-- ---- the code's own steps
abbrev pub is_none_word : Bool → ℕ → ℕ → Bool
is_none_word signed n v = eqb v (cond signed (half_of n) (top_of n))

abbrev pub defined_of : Bool → ℕ → ℕ → ℤ → Said (Option Scaled)
defined_of signed n v s = cond (is_defined signed n v s) (answer (S.Number (integer_of signed n v) s)) (refusal 21 0)

-- THE WRITER
abbrev pub WritesScaled : List ℕ → Bool → ℕ → Option Scaled → Result ℕ Refusal → List ℕ → Type 0
WritesScaled room signed n x r exit = Writes room (1 + n) (fits_scaled signed n x) (put_scaled signed n room x) r exit

-- of a scale and an integer as words
abbrev pub WritesParts : List ℕ → ℕ → Bool → ℕ → ℕ → Result ℕ Refusal → List ℕ → Type 0
WritesParts room n right s v r exit = Writes room (1 + n) right (stored (stored room 0 1 s) 1 n v) r exit
