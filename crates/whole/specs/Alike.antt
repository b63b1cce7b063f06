-- NON-MALLEABILITY: which products answer alike, and how far their bytes can differ. Assumes nothing.
use Rattle.std.specs.Prelude.{ℕ, ◌+◌, ◌≤◌, ◌<◌, ◌≡◌, Bool, true, ◌⊎◌, List, length, get_or, take, drop}
use Rattle.meter.specs.General.{is_none}
use Rattle.record.specs.Pointer.{pointer_read_at}
use Rattle.record.specs.declared.header.Header.{Header}
use Rattle.text.specs.declared.Kind.{Kind}
use Rattle.text.specs.declared.Kind.TheVariants.{Text, Unsigned, Count, Signed, Time, LongTime}
use Rattle.mphr.specs.Layout.{width_of, kind_of}
use Rattle.demands.specs.Product.{Meets}
use Rattle.query.specs.Query.{value_start, TextIs, NumberIs, TimeIs, RecordIs}
use Rattle.std.specs.declared.result.Result.TheVariants.{Ok}
use Rattle.std.specs.declared.option.Option.{Option}
use Rattle.std.specs.declared.result.Result.{Result}
use Rattle.calendar.specs.declared.Refusal.{Refusal}
use Rattle.std.specs.Prelude.{ℤ}
use Rattle.meter.specs.declared.general.Moment.{Moment}
use Rattle.query.specs.declared.Record.{Record}
use Rattle.query.specs.Found.{part_found}
use Rattle.query.specs.Found.{record_found}
use Rattle.meter.specs.Integer.{Bytes}
use Rattle.whole.specs.Values.{print}
use Rattle.whole.specs.Spelled.{Canonical}
use Rattle.whole.specs.Parse.{line_at, parse}

-- b ANSWERS AS a DOES: to the field queries and the record query, whatever is right to answer of a is right of b (the ground points, the rows and the
-- listing follow from these); to the pointer reader; and the bytes after the headers of the other records are the same
pub record AnswersAs (a b : List ℕ) : Type 0 where
  pub texts : (k i w : ℕ) → TextIs a k (part_found i w) → take w (drop i a) ≡ take w (drop i b)
  pub numbers : (k : ℕ) (r : Result (Option ℤ) Refusal) → NumberIs a k r → NumberIs b k r
  pub times : (k : ℕ) (long : Bool) (r : Result (Option Moment) Refusal) → TimeIs a k long r → TimeIs b k long r
  pub records : (k : ℕ) (r : Result Record Refusal) → RecordIs a k r → RecordIs b k r
  pub targets : (k i : ℕ) (h : Header) → RecordIs a k (record_found i h) → h.class ≡ 3 → pointer_read_at a i ≡ pointer_read_at b i
  pub payloads : (k i : ℕ) (h : Header) → RecordIs a k (record_found i h) → 0 < k → (h.class ≡ 3 → ⊥) → (j : ℕ) → 20 ≤ j → j < h.size → get_or a (i + j) 0 ≡ get_or b (i + j) 0

-- byte j is one of a number's spelling: in line k, "spaces, a sign, digits"; or it is the last byte of a time that a has undefined, x or Z
abbrev pub InNumber : Kind → ℕ → ℕ → ℕ → Type 0
InNumber Text i w j = ⊥
InNumber Unsigned i w j = (i ≤ j) × (j < i + w)
InNumber Count i w j = (i ≤ j) × (j < i + w)
InNumber Signed i w j = (i ≤ j) × (j < i + w)
InNumber Time i w j = ⊥
InNumber LongTime i w j = ⊥

abbrev pub EndsNone : Kind → List ℕ → ℕ → ℕ → Type 0
EndsNone Text a i j = ⊥
EndsNone Unsigned a i j = ⊥
EndsNone Count a i j = ⊥
EndsNone Signed a i j = ⊥
EndsNone Time a i j = (is_none 14 a i ≡ true) × (j ≡ i + 14)
EndsNone LongTime a i j = (is_none 17 a i ≡ true) × (j ≡ i + 17)

-- byte j of a and of b is such a byte, of a line that says the same in both
pub record Respelled (a b : List ℕ) (j : ℕ) : Type 0 where
  pub line : ℕ
  pub known : line < 72
  pub says : line_at a line ≡ line_at b line
  pub part : InNumber (kind_of line) (value_start line) (width_of line) j ⊎ EndsNone (kind_of line) a (value_start line) j

-- THE SAME BUT FOR THE SPELLING of numbers and undefined times
pub record SameBut (a b : List ℕ) : Type 0 where
  pub long : length a ≡ length b
  pub byte : (j : ℕ) → (get_or a j 0 ≡ get_or b j 0) ⊎ Respelled a b j

-- b is a product in the writers' spelling that says what a says, answers as a does, and is a but for spelling
pub record FormOf (a b : List ℕ) : Type 0 where
  pub bytes : Bytes b
  pub product : Meets b
  pub canonical : Canonical b
  pub says : parse a ≡ parse b
  pub answers : AnswersAs a b
  pub same : SameBut a b

-- THE THEOREMS, of two products
pub record NonMalleable : Type 0 where
  -- 3. products that answer alike say the same, and the other way
  pub says : (a b : List ℕ) → Bytes a → Bytes b → Meets a → Meets b → AnswersAs a b → parse a ≡ parse b
  pub answers : (a b : List ℕ) → Bytes a → Bytes b → Meets a → Meets b → parse a ≡ parse b → AnswersAs a b
  -- so in the writers' spelling they are the same bytes
  pub same : (a b : List ℕ) → Bytes a → Bytes b → Meets a → Meets b → Canonical a → Canonical b → AnswersAs a b → a ≡ b
  -- and in any spelling the same but for it, and the other way
  pub but : (a b : List ℕ) → Bytes a → Bytes b → Meets a → Meets b → AnswersAs a b → SameBut a b
  pub back : (a b : List ℕ) → Bytes a → Bytes b → Meets a → Meets b → SameBut a b → AnswersAs a b
  -- each product has one form in the writers' spelling that answers as it does: what is printed of what it says
  pub form : (a : List ℕ) → Bytes a → Meets a → FormOf a (print (parse a))
  pub only : (a b : List ℕ) → Bytes a → Bytes b → Meets a → Meets b → Canonical b → AnswersAs a b → b ≡ print (parse a)
