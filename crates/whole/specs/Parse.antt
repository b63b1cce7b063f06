-- WHAT THE BYTES SAY: the values of a product, by the readers' own definitions. Assumes nothing.
use Rattle.std.specs.Prelude.{ℕ, zero, suc, ◌+◌, ◌-◌, cond, List, [], ◌∷◌, eqb, take, drop}
use Rattle.meter.specs.General.{general_at}
use Rattle.record.specs.Header.{header_at}
use Rattle.record.specs.Pointer.{pointer_at}
use Rattle.text.specs.Field.{number_at}
use Rattle.text.specs.declared.Kind.{Kind}
use Rattle.text.specs.declared.Kind.TheVariants.{Text, Unsigned, Count, Signed, Time, LongTime}
use Rattle.mphr.specs.Layout.{width_of, kind_of, line_start}
use Rattle.mphr.specs.Table.{total}
use Rattle.demands.specs.Product.{class, size}
use Rattle.demands.specs.Demands.{start}
use Rattle.whole.specs.Values.{Value, text, number, time, Rec, plain, pointer, Values}

-- the value of the w bytes from i on, by its kind
abbrev pub value_at : Kind → List ℕ → ℕ → ℕ → Value
value_at Text a i w = text (take w (drop i a))
value_at Unsigned a i w = number (number_at a i w)
value_at Count a i w = number (number_at a i w)
value_at Signed a i w = number (number_at a i w)
value_at Time a i w = time (general_at 14 a i)
value_at LongTime a i w = time (general_at 17 a i)

unfoldable pub line_at : List ℕ → ℕ → Value
line_at a k = value_at (kind_of k) a (line_start k + 32) (width_of k)

-- n lines from line k on
abbrev pub lines_at : List ℕ → ℕ → ℕ → List Value
lines_at a k zero = []
lines_at a k (suc n) = line_at a k ∷ lines_at a (suc k) n

-- the record at byte i: a pointer record, or its header and the bytes after it
unfoldable pub rec_at : List ℕ → ℕ → Rec
rec_at a i = cond (eqb (class a i) 3) (pointer (pointer_at a i)) (plain (header_at a i) (take (size a i - 20) (drop (i + 20) a)))

abbrev pub recs_at : List ℕ → List ℕ → List Rec
recs_at a [] = []
recs_at a (i ∷ l) = rec_at a i ∷ recs_at a l

-- the values of a product whose records after the main header start at the bytes of l
abbrev pub parse_at : List ℕ → List ℕ → Values
parse_at a l = record { header = header_at a 0; lines = lines_at a 0 72; records = recs_at a l }

-- where n records start, from record k on: each where the one before it ends
abbrev pub starts_at : List ℕ → ℕ → ℕ → List ℕ
starts_at a k zero = []
starts_at a k (suc n) = start a k ∷ starts_at a (suc k) n

-- THE VALUES: as many records as TOTAL_RECORDS says, with the main header
abbrev pub parse : List ℕ → Values
parse a = parse_at a (starts_at a 1 (total a 0 - 1))
