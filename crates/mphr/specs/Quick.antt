-- What the quick lookup computes: a name's first letter, its place and its row (tools/rows writes the three tables from the names). No promise names these: what the
-- lookup answers is said in Lookup.antt alone. Assumes nothing.
use Rattle.std.specs.Prelude.{ℕ, ◌+◌, ◌-◌, ◌*◌, ◌/◌, ◌%◌, ◌^◌, Bool, true, cond, List, [], ◌∷◌, eqb, leb, length, get_or}
use Rattle.meter.specs.Integer.{be_at}
use Rattle.mphr.specs.Layout.{pad}
use Rattle.mphr.specs.Rows.{field_words, letter_words, by_last, by_middle, by_first}

-- eight bytes as one number, the first highest
abbrev pub eight_at : List ℕ → ℕ → ℕ
eight_at s i = be_at s i 4 * 4294967296 + be_at s (i + 4) 4

-- byte j of such a number
abbrev pub byte_of : ℕ → ℕ → ℕ
byte_of w j = w / 2 ^ (56 - 8 * j) % 256

-- the row of a name: the padded name, a zero byte and the name's length; and its last eight bytes
unfoldable pub words_of : List ℕ → List ℕ
words_of r = eight_at (pad r) 0 ∷ eight_at (pad r) 8 ∷ eight_at (pad r) 16 ∷ (eight_at (pad r) 24 + length r) ∷ eight_at r (length r - 8) ∷ []

abbrev pub joined : List ℕ → List ℕ → List ℕ
joined h e = get_or h 0 0 ∷ get_or h 1 0 ∷ get_or h 2 0 ∷ get_or e 0 0 ∷ get_or e 1 0 ∷ []

-- w is the number of the eight bytes from i on, where there are so many
abbrev pub agrees : List ℕ → ℕ → ℕ → Bool
agrees s i w = cond (leb (i + 8) (length s)) (eqb (eight_at s i) w) true

-- the place of a name of nine bytes or more: by its last eight bytes, its middle eight and its first
abbrev pub place_of : List ℕ → ℕ
place_of s = (eight_at s (length s - 8) % by_last + eight_at s (length s / 2 - 4) % by_middle + by_first * get_or s 0 0) % 256

abbrev pub field_at : ℕ → ℕ
field_at p = byte_of (get_or field_words (p / 8) 0) (p % 8)

-- bit j of a number
abbrev pub bit_of : ℕ → ℕ → ℕ
bit_of w j = w / 2 ^ j % 2

-- whether a name of so many bytes, 9 to 30, begins as this one does: 1 for yes
abbrev pub letters_of : List ℕ → ℕ
letters_of s = get_or letter_words (length s) 0

abbrev pub begins : List ℕ → ℕ
begins s = bit_of (letters_of s) (get_or s 0 0 % 32)

-- the only field that can have the name; 72 or more for none
unfoldable pub likely_of : List ℕ → ℕ
likely_of s = cond (leb 9 (length s)) (cond (leb (length s) 30) (cond (eqb (begins s) 1) (field_at (place_of s)) 255) 255) 255
