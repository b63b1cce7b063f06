-- DEMAND 2, WHAT A PRODUCT IS, said apart from the table of faults: a main header of 3,307 bytes, whose 72 lines are right; after it records, one
-- after the other, up to the declared size D; in section order; as many of each class as the header's totals say; each pointer at the start of a
-- later record of the class, group and subclass that it names (01, "Record header, 20 bytes" and "MPHR"; 002, 4.2, 5 and 5.2.1). The tests of a line, of
-- times, classes and groups are the table's too; Words.antt says them in words. Assumes nothing.
use Rattle.std.specs.Prelude.{ℕ, ◌+◌, ◌≤◌, ◌<◌, ◌≡◌, true, cond, eqb, length, get_or}
use mathlib.Core.List.{List, [], ◌∷◌, Memᴰ as In}
use Rattle.meter.specs.Integer.{be_at}
use Rattle.record.specs.Header.{is_class, is_group}
use Rattle.record.specs.Follow.{may_follow}
use Rattle.record.specs.Times.{timed_at}
use Rattle.mphr.specs.Table.{headed, timed, framed, valued, declared, total, Sums}

-- THE MAIN HEADER: class 1, group 0, subclass 0, size 3307; its times; each line's name, "= " and line feed, and a value of its kind; D; the totals
pub record MainHeader (a : List ℕ) : Type 0 where
  pub header : headed a ≡ true
  pub times : timed a ≡ true
  pub lines : (k : ℕ) → k < 72 → (framed a k ≡ true) × (valued a k ≡ true)
  pub least : 3307 ≤ declared a
  pub most : declared a ≤ 2147483647
  pub sums : Sums a

-- of the record at byte i: "class 0, instrument group 1, subclass 2, .. record size 4..7"; class, group and subclass, three bytes, are its kind: of
-- bytes, which are below 256, equal kinds are three equal bytes (proofs/ProductLaws.antt)
abbrev pub class : List ℕ → ℕ → ℕ
class a i = get_or a i 0

abbrev pub group : List ℕ → ℕ → ℕ
group a i = get_or a (i + 1) 0

abbrev pub kind : List ℕ → ℕ → ℕ
kind a i = be_at a i 3

abbrev pub size : List ℕ → ℕ → ℕ
size a i = be_at a (i + 4) 4

-- and of a pointer record, after its header: "target class, target group, target subclass, target offset (4 bytes, from the product's first byte)"
abbrev pub target_class : List ℕ → ℕ → ℕ
target_class a i = get_or a (i + 20) 0

abbrev pub target_kind : List ℕ → ℕ → ℕ
target_kind a i = be_at a (i + 20) 3

abbrev pub offset : List ℕ → ℕ → ℕ
offset a i = be_at a (i + 23) 4

-- A RECORD starts at byte i, after one of class p: its class and its group are known; its class may follow p; it has a header at least, and is of 27
-- bytes if it is a pointer (class 3); its times are right, and its start is not after its stop
pub record IsRecord (a : List ℕ) (p i : ℕ) : Type 0 where
  pub known : is_class (class a i) ≡ true
  pub grouped : is_group (group a i) ≡ true
  pub ordered : may_follow p (class a i) ≡ true
  pub least : 20 ≤ size a i
  pub ipr : class a i ≡ 3 → size a i ≡ 27
  pub times : timed_at a i ≡ true

-- THE POINTER at byte i names a class 4 to 8 and points at the start of one of the records of l, which is of the class, group and subclass it names
pub record Aims (a l : List ℕ) (i : ℕ) : Type 0 where
  pub four : 4 ≤ target_class a i
  pub eight : target_class a i ≤ 8
  pub later : In (offset a i) l
  pub alike : kind a (offset a i) ≡ target_kind a i

-- THE TILING: the bytes from i to D are records, after one of class p; l are their starts. A pointer points at a record after it
pub data Records (a : List ℕ) : ℕ → ℕ → List ℕ → Type 0 where
  none : {i p : ℕ} → i ≡ declared a → Records a i p []
  more : {i p : ℕ} {l : List ℕ} → IsRecord a p i → (class a i ≡ 3 → Aims a l i) → Records a (i + size a i) (class a i) l → Records a i p (i ∷ l)

-- how many of the records that start at the bytes of l are of class c
abbrev pub of_class : List ℕ → ℕ → List ℕ → ℕ
of_class a c [] = 0
of_class a c (i ∷ l) = cond (eqb (class a i) c) 1 0 + of_class a c l

-- A PRODUCT, WHOLE. The main header, at byte 0, is the first of its records; `list` has the starts of the others
pub record Meets (a : List ℕ) : Type 0 where
  pub header : MainHeader a
  pub list : List ℕ
  pub records : Records a 3307 1 list
  pub totals : (c : ℕ) → 1 ≤ c → c ≤ 8 → of_class a c (0 ∷ list) ≡ total a c
  pub come : length a ≡ declared a
