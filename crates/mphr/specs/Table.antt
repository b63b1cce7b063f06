-- The faults of the main product header: rows 1 to 5 of 01's table ("Numbers we answer with"), and row 10 at the first record. Byte i of
-- an arrival is `get_or a i 0`; a fault that looks at a byte that has not come is shown at a longer arrival, so it is not given.
-- Assumes nothing.
use Rattle.std.specs.Prelude.{ℕ, zero, suc, ◌+◌, ◌*◌, ◌≤◌, ◌<◌, ◌≡◌, Bool, true, false, ◌&&◌, ◌⊎◌, List, eqb, get_or}
use Rattle.tables.specs.Table.{Row, fault, Table}
use Rattle.tables.specs.Table as T
use Rattle.meter.specs.Integer.{be_at}
use Rattle.meter.specs.General.{lead, number_of}
use Rattle.record.specs.Times.{timed_at}
use Rattle.text.specs.Field.{is_value}
use Rattle.mphr.specs.Layout.{names, width_of, kind_of, line_start}
use Rattle.std.specs.declared.result.Result.TheVariants.{Ok, Err}
use Rattle.std.specs.declared.result.Result.{Result}
use Rattle.calendar.specs.declared.Refusal.{Refusal}

-- row 1: the first header is of class 1, group 0, subclass 0 and size 3307
unfoldable pub headed : List ℕ → Bool
headed a = (eqb (get_or a 0 0) 1 && (eqb (get_or a 1 0) 0 && eqb (get_or a 2 0) 0)) && eqb (be_at a 4 4) 3307

-- row 10: both times are right, and the start is not after the stop where both are defined
abbrev pub timed : List ℕ → Bool
timed a = timed_at a 0

-- row 2: the name, "= " and the line feed of line k are right
unfoldable pub named : List ℕ → ℕ → Bool
named a k = eqb (lead (λ (j : ℕ). eqb (get_or a (line_start k + j) 0) (get_or names (30 * k + j) 0)) 30) 30

unfoldable pub framed : List ℕ → ℕ → Bool
framed a k =
    (named a k && (eqb (get_or a (line_start k + 30) 0) 61 && eqb (get_or a (line_start k + 31) 0) 32)) && eqb (get_or a (line_start k + 32 + width_of k) 0) 10

-- row 3: the value of line k is of its kind
unfoldable pub valued : List ℕ → ℕ → Bool
valued a k = is_value (kind_of k) a (line_start k + 32) (width_of k)

-- the number of line k
abbrev pub number_on : List ℕ → ℕ → ℕ
number_on a k = number_of a (line_start k + 32) (width_of k)

-- D, the size that the product declares: ACTUAL_PRODUCT_SIZE, line 28
unfoldable pub declared : List ℕ → ℕ
declared a = number_on a 28

-- the totals: TOTAL_RECORDS, line 55, and 1 to 8 of each class in the lines after it
unfoldable pub total : List ℕ → ℕ → ℕ
total a j = number_on a (55 + j)

-- the sum of the totals 1 to n
unfoldable pub sum : List ℕ → ℕ → ℕ
sum a zero = 0
sum a (suc n) = sum a n + total a (n + 1)

-- row 5: TOTAL_MPHR is 1, TOTAL_SPHR at most 1, and TOTAL_RECORDS the sum of the other eight
pub record Sums (a : List ℕ) : Type 0 where
  pub main : total a 1 ≡ 1
  pub second : total a 2 ≤ 1
  pub all : total a 0 ≡ sum a 8

-- THE TABLE, the rows of a line
pub data WrongLine (a : List ℕ) (k : ℕ) : Type 0 where
  bad_frame : framed a k ≡ false → WrongLine a k
  bad_value : valued a k ≡ false → WrongLine a k

abbrev pub row_line : {a : List ℕ} {k : ℕ} → WrongLine a k → Row
row_line {k = k} (bad_frame _) = fault 2 (line_start k) (line_start (suc k))
row_line {k = k} (bad_value _) = fault 3 (line_start k + 32) (line_start (suc k))

-- THE TABLE, of the main product header. 4 and 5 are judged of well-formed numbers only; 10 at the first record exists always
pub data Fault (a : List ℕ) : Type 0 where
  bad_header : headed a ≡ false → Fault a
  bad_line : (k : ℕ) → k < 72 → WrongLine a k → Fault a
  bad_size : valued a 28 ≡ true → (declared a < 3307) ⊎ (2147483647 < declared a) → Fault a
  bad_totals : ((j : ℕ) → j < 9 → valued a (55 + j) ≡ true) → (Sums a → ⊥) → Fault a
  bad_times : timed a ≡ false → Fault a

abbrev pub row : {a : List ℕ} → Fault a → Row
row (bad_header _) = fault 1 0 20
row (bad_line k _ w) = row_line w
row (bad_size _ _) = fault 4 1485 1497
row (bad_totals _ _) = fault 5 2675 2994
row (bad_times _) = fault 10 0 20

abbrev pub number : {a : List ℕ} → Fault a → ℕ
number f = (row f).number

abbrev pub place : {a : List ℕ} → Fault a → ℕ
place f = (row f).place

abbrev pub shown : {a : List ℕ} → Fault a → ℕ
shown f = (row f).shown

-- THE RULE, and what is given by it: numbers go in their own order
abbrev pub table : Table
table = record { Fault = Fault; row = row; order = λ r. r }

abbrev pub Gives : List ℕ → Row → Type 0
Gives a r = T.Gives table a r

abbrev pub Given : List ℕ → ℕ → ℕ → Type 0
Given a n p = T.Given table a n p

-- no fault is shown
abbrev pub Clean : List ℕ → Type 0
Clean a = T.Clean table a

-- the header has none of the faults 1 to 5, on which all that follows it rests
abbrev pub Fine : List ℕ → Type 0
Fine a = (g : Fault a) → number g ≤ 5 → ⊥

-- what is right to answer of an arrival's main header
abbrev pub FirstIs : List ℕ → Result Unit Refusal → Type 0
FirstIs a (Ok _) = Clean a
FirstIs a (Err r) = Given a r.number r.place
