-- WHAT A PRODUCT SAYS, apart from its bytes; THE BYTES that say it, by the writers' own definitions; and which values are RIGHT, in 01's words. proofs/
-- has the laws: the bytes of right values are a product (`Meets`, demand 2), and each product whose numbers and undefined times are spelled as the
-- writers spell them (specs/Spelled.antt) is the bytes of exactly one. Assumes nothing.
use Rattle.std.specs.Prelude.{ℕ, suc, ◌+◌, ◌≤◌, ◌<◌, ◌≡◌, Bool, true, false, cond, eqb, pos, length, get_or, replicate}
use mathlib.Core.List.{List, [], ◌∷◌, ◌++◌, Memᴰ as In}
use Rattle.meter.specs.General.{digits_of, put_general}
use Rattle.meter.specs.Integer.{Bytes}
use Rattle.meter.specs.Time.{InDays, compared}
use Rattle.std.specs.declared.option.Option.TheVariants.{Some}
use Rattle.std.specs.declared.option.Option.{Option}
use Rattle.std.specs.Prelude.{ℤ}
use Rattle.meter.specs.declared.general.Moment.{Moment}
use Rattle.record.specs.Header.{is_header, put_header}
use Rattle.record.specs.Pointer.{put_pointer}
use Rattle.record.specs.Follow.{may_follow}
use Rattle.record.specs.Times.{is_after}
use Rattle.record.specs.declared.header.Header.{Header}
use Rattle.record.specs.declared.pointer.Pointer.{Pointer}
use Rattle.text.specs.Writing.{put_text, put_number}
use Rattle.mphr.specs.Layout.{width_of, kind_of}
use Rattle.mphr.specs.Lines.{text_fits, number_fits, time_fits, is_long, put_line}

-- ---- THE VALUES
-- of a line of the main header: a text; a number or none; a time or none
pub data Value : Type 0 where
  text : List ℕ → Value
  number : Option ℤ → Value
  time : Option Moment → Value

-- of a record after the main header: its header and the bytes after it; or a pointer record, its header and what it points to
pub data Rec : Type 0 where
  plain : Header → List ℕ → Rec
  pointer : Pointer → Rec

-- of a product: the main header's own record header, its 72 lines, and the records after it
pub record Values : Type 0 where
  pub header : Header
  pub lines : List Value
  pub records : List Rec

abbrev pub head_of : Rec → Header
head_of (plain h d) = h
head_of (pointer p) = p.header

-- ---- THE BYTES, each part by its writer in a room of its own size
abbrev pub room : ℕ → List ℕ
room n = replicate n 0

-- the writer of the value of line k
abbrev pub put : ℕ → Value → List ℕ → List ℕ
put k (text t) a = put_text a t
put k (number x) a = put_number (width_of k) a x
put k (time g) a = put_general (digits_of (is_long (kind_of k))) a g

-- line k: its name, "= ", the value, a line feed
unfoldable pub line_of : ℕ → Value → List ℕ
line_of k x = put_line k (put k x) (room (width_of k + 33))

abbrev pub lines_from : ℕ → List Value → List ℕ
lines_from k [] = []
lines_from k (x ∷ l) = line_of k x ++ lines_from (suc k) l

unfoldable pub main_of : Values → List ℕ
main_of v = put_header (room 20) v.header ++ lines_from 0 v.lines

unfoldable pub rec_of : Rec → List ℕ
rec_of (plain h d) = put_header (room 20) h ++ d
rec_of (pointer p) = put_pointer (room 27) p

abbrev pub recs_of : List Rec → List (List ℕ)
recs_of [] = []
recs_of (r ∷ l) = rec_of r ∷ recs_of l

abbrev pub joined : List Rec → List ℕ
joined [] = []
joined (r ∷ l) = rec_of r ++ joined l

-- THE PRODUCT
abbrev pub print : Values → List ℕ
print v = main_of v ++ joined v.records

-- ---- WHICH VALUES ARE RIGHT
-- the value is of line k's kind and fits its width (mphr's writers: else 22)
abbrev pub fits : ℕ → Value → Bool
fits k (text t) = text_fits (kind_of k) (width_of k) t
fits k (number x) = number_fits (kind_of k) (width_of k) x
fits k (time g) = time_fits (kind_of k) g

-- a record header: class and group known, size 20 or more, times right (record's writer: else 21), each number of its bytes, and the start not after
-- the stop where both are defined
pub record RightHeader (h : Header) : Type 0 where
  pub form : is_header h ≡ true
  pub subclass : h.subclass < 256
  pub version : h.version < 256
  pub size : h.size < 0x1_0000_0000
  pub start : InDays h.start
  pub stop : InDays h.stop
  pub timed : is_after (compared h.start h.stop) ≡ false

-- a record that is no pointer (class 3): "record size, header included"
pub record RightPlain (h : Header) (d : List ℕ) : Type 0 where
  pub header : RightHeader h
  pub other : h.class ≡ 3 → ⊥
  pub sized : h.size ≡ 20 + length d
  pub bytes : Bytes d

-- a pointer record: "exactly 27 bytes", "target class .. 4..8"
pub record RightPointer (p : Pointer) : Type 0 where
  pub header : RightHeader p.header
  pub is_class : p.header.class ≡ 3
  pub is_size : p.header.size ≡ 27
  pub four : 4 ≤ p.class
  pub eight : p.class ≤ 8
  pub group : p.group < 256
  pub subclass : p.subclass < 256
  pub offset : p.offset < 0x1_0000_0000

abbrev pub RightRec : Rec → Type 0
RightRec (plain h d) = RightPlain h d
RightRec (pointer p) = RightPointer p

-- THE ORDER: each class may follow the one before, the first the class p
abbrev pub Ordered : ℕ → List Rec → Type 0
Ordered p [] = Unit
Ordered p (r ∷ l) = (may_follow p (head_of r).class ≡ true) × Ordered (head_of r).class l

-- THE POINTERS: of the records l, the first at byte i, one starts where p points and is of the class, group and subclass that p names
pub data Meant : ℕ → List Rec → Pointer → Type 0 where
  here : {i : ℕ} {p : Pointer} {r : Rec} {l : List Rec} → p.offset ≡ i → (head_of r).class ≡ p.class → (head_of r).group ≡ p.group → (head_of r).subclass ≡ p.subclass → Meant i (r ∷ l) p
  there : {i : ℕ} {p : Pointer} {r : Rec} {l : List Rec} → Meant (i + (head_of r).size) l p → Meant i (r ∷ l) p

-- a pointer points at one of the records l after it, the first at byte i
abbrev pub Aims : Rec → ℕ → List Rec → Type 0
Aims (plain h d) i l = Unit
Aims (pointer p) i l = Meant i l p

abbrev pub Aimed : ℕ → List Rec → Type 0
Aimed i [] = Unit
Aimed i (r ∷ l) = Aims r (i + (head_of r).size) l × Aimed (i + (head_of r).size) l

-- how many bytes the records are, and how many are of class c
abbrev pub bytes : List Rec → ℕ
bytes [] = 0
bytes (r ∷ l) = (head_of r).size + bytes l

abbrev pub count : ℕ → List Rec → ℕ
count c [] = 0
count c (r ∷ l) = cond (eqb (head_of r).class c) 1 0 + count c l

abbrev pub line_in : Values → ℕ → Value
line_in v k = get_or v.lines k (text [])

abbrev pub whole : ℕ → Value
whole n = number (Some (pos n))

-- RIGHT VALUES. Lines 28 and 55 to 63 are ACTUAL_PRODUCT_SIZE, TOTAL_RECORDS and the totals of classes 1 to 8
pub record Right (v : Values) : Type 0 where
  pub header : RightHeader v.header
  pub main : (v.header.class ≡ 1) × (v.header.group ≡ 0) × (v.header.subclass ≡ 0) × (v.header.size ≡ 3307)
  pub long : length v.lines ≡ 72
  pub lines : (k : ℕ) → k < 72 → fits k (line_in v k) ≡ true
  pub records : (r : Rec) → In r v.records → RightRec r
  pub order : Ordered 1 v.records
  pub pointers : Aimed 3307 v.records
  pub size : line_in v 28 ≡ whole (3307 + bytes v.records)
  pub most : 3307 + bytes v.records ≤ 2147483647
  pub all : line_in v 55 ≡ whole (suc (length v.records))
  pub mphr : line_in v 56 ≡ whole 1
  pub totals : (c : ℕ) → 2 ≤ c → c ≤ 8 → line_in v (55 + c) ≡ whole (count c v.records)
