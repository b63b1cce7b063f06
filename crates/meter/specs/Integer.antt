-- Big-endian integers (01, "What we build from": "All binary numbers are big-endian").
-- Assumes nothing.
use Rattle.std.specs.Prelude.{ℕ, zero, suc, ◌+◌, ◌-◌, ◌*◌, ◌/◌, ◌%◌, ◌^◌, ◌<◌, Bool, cond, ◌&&◌, ◌||◌, List, eqb, ltb, leb, ℤ, pos, negsuc, get_or, set}
use Rattle.std.proofs.Math.IntN.{sub_ℕ}
use Rattle.std.specs.Int.Signed.{mag}
use Rattle.calendar.specs.Said.{Said}
use Rattle.std.specs.declared.result.Result.{Result}
use Rattle.calendar.specs.declared.Refusal.{Refusal}
use Rattle.meter.specs.Lent.{reads, Writes}

-- each is a byte, as each number of a lent slice is
abbrev pub Bytes : List ℕ → Type 0
Bytes a = (k : ℕ) → get_or a k 0 < 256

-- the number in the n bytes of a from at on: each byte counts 256 times the one after it
unfoldable pub be_at : List ℕ → ℕ → ℕ → ℕ
be_at a at zero = 0
be_at a at (suc n) = be_at a at n * 256 + get_or a (at + n) 0

-- a with the n low bytes of v from at on, the most significant first
unfoldable pub stored : List ℕ → ℕ → ℕ → ℕ → List ℕ
stored a at zero v = a
stored a at (suc n) v = stored (set a (at + n) (v % 256)) at n (v / 256)

-- the widths of integers
unfoldable pub is_width : ℕ → Bool
is_width n = eqb n 2 || (eqb n 4 || eqb n 8)

-- the greatest number of n bytes, and half of their numbers
unfoldable pub top_of : ℕ → ℕ
top_of n = 256 ^ n - 1

unfoldable pub half_of : ℕ → ℕ
half_of n = 256 ^ n / 2

-- two's complement: from half on, v stands for v - (half + half)
unfoldable pub twos : ℕ → ℕ → ℤ
twos half v = cond (ltb v half) (pos v) (sub_ℕ v (half + half))

-- a signed number as 8 bytes hold it
unfoldable pub word_of : ℤ → ℕ
word_of (pos n) = n
word_of (negsuc n) = 0x1_0000_0000_0000_0000 - suc n

-- a number that n bytes can hold: 0 to top, and -half to half - 1 (mag z is z, or -1 - z where z is below 0)
unfoldable pub fits_unsigned : ℕ → ℕ → Bool
fits_unsigned n v = is_width n && leb v (top_of n)

unfoldable pub fits_signed : ℕ → ℤ → Bool
fits_signed n z = is_width n && ltb (mag z) (half_of n)

-- THE READERS
abbrev pub unsigned_at : List ℕ → ℕ → ℕ → Said ℕ
unsigned_at a at n = reads a at n (is_width n) (be_at a at n)

abbrev pub signed_at : List ℕ → ℕ → ℕ → Said ℤ
signed_at a at n = reads a at n (is_width n) (twos (half_of n) (be_at a at n))

-- THE WRITERS
abbrev pub WritesUnsigned : List ℕ → ℕ → ℕ → Result ℕ Refusal → List ℕ → Type 0
WritesUnsigned room n v r exit = Writes room n (fits_unsigned n v) (stored room 0 n v) r exit

-- in two's complement
abbrev pub WritesSigned : List ℕ → ℕ → ℤ → Result ℕ Refusal → List ℕ → Type 0
WritesSigned room n z r exit = Writes room n (fits_signed n z) (stored room 0 n (word_of z)) r exit
