-- The value of a header field by its kind (01, "MPHR", "Kinds": "Text is bytes 32..126. A number is spaces (or none), one sign or none
-- (signed only), then one or more digits to the field's end. .. Number and time fields may be all `x`, meaning undefined, but not the size or
-- the nine totals"). A field is the w bytes of a from i on. These are the tests that the code is proved against; specs/Grammar.antt says the
-- same as a grammar. Assumes nothing.
use Rattle.std.specs.Prelude.{ℕ, ◌+◌, ◌-◌, Bool, true, false, cond, ◌&&◌, ◌||◌, List, eqb, ltb, leb, ℤ, pos, neg_ℤ, get_or}
use Rattle.calendar.specs.Said.{Said}
use Rattle.meter.specs.Lent.{inside, reads}
use Rattle.meter.specs.General.{run_of, each, number_of, is_general}
use Rattle.text.specs.declared.Kind.{Kind}
use Rattle.text.specs.declared.Kind.TheVariants.{Text, Unsigned, Count, Signed, Time, LongTime}
use Rattle.std.specs.declared.option.Option.TheVariants.{Some, None}
use Rattle.std.specs.declared.option.Option.{Option}

-- text: bytes 32 to 126
abbrev pub is_text : List ℕ → ℕ → ℕ → Bool
is_text a i w = each 32 126 a i w

-- undefined: at least one byte, and each is x
unfoldable pub is_x : List ℕ → ℕ → ℕ → Bool
is_x a i w = ltb 0 w && each 120 120 a i w

-- the bytes that a sign takes, where there may be one
abbrev pub signs : Bool → ℕ → ℕ
signs signed b = cond (signed && (eqb b 43 || eqb b 45)) 1 0

-- the spaces, and the bytes before the digits: spaces, then perhaps a sign
abbrev pub spaces : List ℕ → ℕ → ℕ → ℕ
spaces a i w = run_of 32 32 a i w

abbrev pub before : Bool → List ℕ → ℕ → ℕ → ℕ
before signed a i w = spaces a i w + signs signed (get_or a (i + spaces a i w) 0)

-- a number: not all are spaces, at least one byte is left after a sign, and each that is left is a digit
unfoldable pub is_number : Bool → List ℕ → ℕ → ℕ → Bool
is_number signed a i w =
    ltb (spaces a i w) w && (ltb (before signed a i w) w && each 48 57 a (i + before signed a i w) (w - before signed a i w))

-- its value: the first byte that is no space is a minus, or it is not; a space and a sign count 0 (`number_of` takes 48 from each byte, and
-- nothing below 0)
abbrev pub integer_of : List ℕ → ℕ → ℕ → ℤ
integer_of a i w = cond (eqb (get_or a (i + spaces a i w) 0) 45) (neg_ℤ (pos (number_of a i w))) (pos (number_of a i w))

-- THE RULE: the w bytes of a from i on are a value of the kind. Count is the size and the totals: never undefined
unfoldable pub is_value : Kind → List ℕ → ℕ → ℕ → Bool
is_value Text a i w = is_text a i w
is_value Unsigned a i w = is_number false a i w || is_x a i w
is_value Count a i w = is_number false a i w
is_value Signed a i w = is_number true a i w || is_x a i w
is_value Time a i w = eqb w 15 && is_general 14 a i
is_value LongTime a i w = eqb w 18 && is_general 17 a i

-- ---- the number reader: 20, then 21 for a malformed number and for a field of more than 17 bytes, whose number could leave 64 bits
abbrev pub is_numeric : Bool → List ℕ → ℕ → ℕ → Bool
is_numeric signed a i w = leb w 17 && (is_x a i w || is_number signed a i w)

abbrev pub number_at : List ℕ → ℕ → ℕ → Option ℤ
number_at a i w = cond (is_x a i w) None (Some (integer_of a i w))

abbrev pub number_read_at : Bool → ℕ → List ℕ → ℕ → Said (Option ℤ)
number_read_at signed w a at = reads a at w (is_numeric signed a at w) (number_at a at w)

-- THE COUNT: the number of a field that is one without a sign, as the size and the totals are; 0 of any other, and where its bytes are not all there
abbrev pub count_at : List ℕ → ℕ → ℕ → ℕ
count_at a at w = cond (inside a at w && (leb w 17 && is_number false a at w)) (number_of a at w) 0
