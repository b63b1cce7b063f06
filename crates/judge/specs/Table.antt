-- THE TABLE OF FAULTS (01, "Numbers we answer with"), rows 1 to 16, and what is to be said of an arrival. Byte i of an arrival is `get_or a i 0`;
-- a fault that looks at a byte that has not come is shown at a longer arrival, so it is not given. The rows of the main header (1 to 5, and 10
-- at the first record) are mphr's. Assumes nothing.
use Rattle.std.specs.Prelude.{◌≡◌, ℕ, ◌+◌, ◌<◌, ◌≤◌, true, false, ◌&&◌, ◌⊎◌, List, [], ◌∷◌, length, ◌≢◌, slice_index, slice_set}
use Rattle.meter.specs.Integer.{be_at}
use Rattle.record.specs.Header.{is_class, is_group}
use Rattle.record.specs.Follow.{may_follow}
use Rattle.record.specs.Times.{timed_at}
use Rattle.tables.specs.Table.{Row, fault, Table}
use Rattle.tables.specs.Table as T
use Rattle.mphr.specs.Table.{declared, total, Fine}
use Rattle.mphr.specs.Table as M
use Rattle.judge.specs.declared.arrival.Arrival.{Arrival}
use Rattle.judge.specs.declared.arrival.Arrival.TheVariants.{Waiting, Refused}

-- where a record can start: after `count` records, at byte `at`, the record before being of class `prev`; `tally` has how many of each class
-- there were, its place c for class c
pub record Site : Type 0 where
  pub count : ℕ
  pub at : ℕ
  pub prev : ℕ
  pub tally : List ℕ

abbrev pub site : ℕ → ℕ → ℕ → List ℕ → Site
site n i p t = record { count = n; at = i; prev = p; tally = t }

-- after the main header, which is the first record
abbrev pub first : Site
first = site 1 3307 1 (0 ∷ 1 ∷ 0 ∷ 0 ∷ 0 ∷ 0 ∷ 0 ∷ 0 ∷ 0 ∷ [])

-- of the record at byte i: its class; class, group and subclass, three bytes, as one number; its size
abbrev pub class_at : List ℕ → ℕ → ℕ
class_at a i = slice_index a i

abbrev pub kind_at : List ℕ → ℕ → ℕ
kind_at a i = be_at a i 3

abbrev pub size_at : List ℕ → ℕ → ℕ
size_at a i = be_at a (i + 4) 4

-- of a pointer record at byte i: the target's class; its class, group and subclass as one number; its offset
abbrev pub aim_class : List ℕ → ℕ → ℕ
aim_class a i = slice_index a (i + 20)

abbrev pub aim_at : List ℕ → ℕ → ℕ
aim_at a i = be_at a (i + 20) 3

abbrev pub offset_at : List ℕ → ℕ → ℕ
offset_at a i = be_at a (i + 23) 4

-- the record at byte i has no fault 9: room for its header, a size of 20 or more, not past D, and 27 for a pointer record
pub record Sound (a : List ℕ) (i : ℕ) : Type 0 where
  pub room : i + 20 ≤ declared a
  pub least : 20 ≤ size_at a i
  pub most : i + size_at a i ≤ declared a
  pub ipr : class_at a i ≡ 3 → size_at a i ≡ 27

-- the tally with one more of class c
abbrev pub one_more : List ℕ → ℕ → List ℕ
one_more t c = slice_set t c (slice_index t c + 1)

-- where the record after the one at x starts
abbrev pub next : List ℕ → Site → Site
next a x = site (x.count + 1) (x.at + size_at a x.at) (class_at a x.at) (one_more x.tally (class_at a x.at))

-- y is x, or is after some sound records from x on ("no record follows one with fault 9")
pub data Leads (a : List ℕ) : Site → Site → Type 0 where
  here : {x : Site} → Leads a x x
  on : {x y : Site} → Sound a x.at → Leads a (next a x) y → Leads a x y

-- the target of the pointer record at byte i has no fault 12
pub record Target (a : List ℕ) (i : ℕ) : Type 0 where
  pub four : 4 ≤ aim_class a i
  pub eight : aim_class a i ≤ 8
  pub past : i + 27 ≤ offset_at a i
  pub within : offset_at a i + 20 ≤ declared a

-- a pointer, without fault 9 or 12
pub record Pointer (a : List ℕ) (q : Site) : Type 0 where
  pub way : Leads a first q
  pub sound : Sound a q.at
  pub ipr : class_at a q.at ≡ 3
  pub target : Target a q.at

-- the header of a record at x is in the product
abbrev pub Head : List ℕ → Site → Type 0
Head a x = x.at + 20 ≤ declared a

-- row 7: "class or group unknown"
abbrev pub Unknown : List ℕ → ℕ → Type 0
Unknown a i = is_class (class_at a i) && is_group (slice_index a (i + 1)) ≡ false

-- row 8: "class against the follow table", which has no row after an unknown class and no column for one
pub record Misplaced (a : List ℕ) (p i : ℕ) : Type 0 where
  pub before : is_class p ≡ true
  pub known : is_class (class_at a i) ≡ true
  pub against : may_follow p (class_at a i) ≡ false

-- row 11: "more of a class than its total"
pub record Surplus (a t : List ℕ) (i : ℕ) : Type 0 where
  pub known : is_class (class_at a i) ≡ true
  pub over : total a (class_at a i) < slice_index t (class_at a i) + 1

-- THE TABLE, the rows of a record after the first, and of the product's end
pub data Wrong (a : List ℕ) (x : Site) : Type 0 where
  -- 6, "1..19 bytes of D left"
  part_left : x.at < declared a → declared a < x.at + 20 → Wrong a x
  -- 7, "class or group unknown"
  unknown : Head a x → Unknown a x.at → Wrong a x
  -- 8, "class against the follow table"
  misplaced : Head a x → Misplaced a x.prev x.at → Wrong a x
  -- 9, "size under 20, past D, or an IPR not 27 (not the first record)"
  bad_size : Head a x → (Sound a x.at → ⊥) → Wrong a x
  -- 10, "bad time, or both defined and start after stop"
  bad_times : Head a x → timed_at a x.at ≡ false → Wrong a x
  -- 11, "more of a class than its total (not the first record)"
  surplus : Head a x → Surplus a x.tally x.at → Wrong a x
  -- 12, "IPR target class not 4..8, offset before the IPR's end, or offset+20 over D"
  bad_target : Sound a x.at → class_at a x.at ≡ 3 → (Target a x.at → ⊥) → Wrong a x
  -- 13, "pointer inside a record starting at r": q is the pointer, x the record
  points_inside : (q : Site) → Pointer a q → Head a x → q.at < x.at → x.at < offset_at a q.at → offset_at a q.at < x.at + size_at a x.at → Wrong a x
  -- 14, "pointer at a record of another class, group or subclass"
  points_at_other : (q : Site) → Pointer a q → Head a x → q.at < x.at → offset_at a q.at ≡ x.at → (aim_at a q.at ≢ kind_at a x.at) → Wrong a x
  -- 15, "fewer of a class than its total"
  too_few : x.at ≡ declared a → (c : ℕ) → 1 ≤ c → c ≤ 8 → slice_index x.tally c < total a c → Wrong a x

-- their number, place and shown-at
abbrev pub row_at : {a : List ℕ} {x : Site} → Wrong a x → Row
row_at {x = x} (part_left _ _) = fault 6 x.at x.at
row_at {x = x} (unknown _ _) = fault 7 x.at (x.at + 20)
row_at {x = x} (misplaced _ _) = fault 8 x.at (x.at + 20)
row_at {x = x} (bad_size _ _) = fault 9 x.at (x.at + 20)
row_at {x = x} (bad_times _ _) = fault 10 x.at (x.at + 20)
row_at {x = x} (surplus _ _) = fault 11 x.at (x.at + 20)
row_at {x = x} (bad_target _ _ _) = fault 12 x.at (x.at + 27)
row_at {x = x} (points_inside q _ _ _ _ _) = fault 13 q.at (x.at + 20)
row_at {x = x} (points_at_other q _ _ _ _ _) = fault 14 q.at (x.at + 20)
row_at {x = x} (too_few _ _ _ _ _) = fault 15 x.at x.at

-- THE TABLE, all of it: the main header's rows; then "Faults 6 to 16, but for 10 at the first record, exist only in a product whose MPHR has none
-- of 1 to 5". Row 16 is shown by each arrival of more than D bytes
pub data Fault (a : List ℕ) : Type 0 where
  main : M.Fault a → Fault a
  at : Fine a → (x : Site) → Leads a first x → Wrong a x → Fault a
  too_long : Fine a → Fault a

abbrev pub row : {a : List ℕ} → Fault a → Row
row (main g) = M.row g
row (at _ x _ w) = row_at w
row {a} (too_long _) = fault 16 (declared a) (declared a + 1)

abbrev pub number : {a : List ℕ} → Fault a → ℕ
number f = (row f).number

abbrev pub place : {a : List ℕ} → Fault a → ℕ
place f = (row f).place

abbrev pub shown : {a : List ℕ} → Fault a → ℕ
shown f = (row f).shown

-- what is given of them, by the rule of every table: numbers go in their own order
abbrev pub table : Table
table = record { Fault = Fault; row = row; order = λ r. r }

-- no fault is shown
abbrev pub Clean : List ℕ → Type 0
Clean a = T.Clean table a

-- "Of the shown faults the one shown earliest is given, then the lowest number, then the lowest place": r is its row
abbrev pub Gives : List ℕ → Row → Type 0
Gives a r = T.Gives table a r

-- the refusal (n, p) is given
abbrev pub Given : List ℕ → ℕ → ℕ → Type 0
Given a n p = T.Given table a n p

-- of an arrival that shows no fault c records are whole, and the last ends at e
pub record Whole (a : List ℕ) (c e : ℕ) : Type 0 where
  pub prev : ℕ
  pub tally : List ℕ
  pub way : Leads a first (site c e prev tally)
  pub come : e ≤ length a
  pub last : Sound a e → length a < e + size_at a e

-- "waiting with the count of whole records and the end of the last (0 and 0 if none)"
pub record Open (a : List ℕ) (c e : ℕ) : Type 0 where
  pub clean : Clean a
  pub whole : ((length a < 3307) × (c ≡ 0) × (e ≡ 0)) ⊎ ((3307 ≤ length a) × Whole a c e)

-- what is right to say of an arrival
abbrev pub Judged : List ℕ → Arrival → Type 0
Judged a (Waiting c e) = Open a c e
Judged a (Refused r) = Given a r.number r.place
