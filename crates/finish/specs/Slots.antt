-- The counters: one for each class, group and subclass that a record of a product can have. No promise names these. Assumes nothing.
use Rattle.std.specs.Prelude.{ℕ, ◌+◌, ◌-◌, ◌*◌, ◌≤◌, ◌<◌, ◌≡◌, true, cond, List, eqb, length, get_or}
use Rattle.record.specs.Header.{is_group}
use Rattle.judge.specs.Table.{class_at}
use Rattle.finish.specs.Rows.{group_at, subclass_at, how_many}

-- a class, a group and a subclass that a record of a product can have
pub record Known (c g s : ℕ) : Type 0 where
  pub one : 1 ≤ c
  pub eight : c ≤ 8
  pub grouped : is_group g ≡ true
  pub byte : s < 256

-- THE SLOT of a triple, of 32,768: 8 classes, the 16 groups of 002's Table 14 (0 to 13, 15, and 99, which has the column of 14, since that is no
-- group), 256 subclasses
unfoldable pub column_of : ℕ → ℕ
column_of g = cond (eqb g 99) 14 g

abbrev pub slot_of : ℕ → ℕ → ℕ → ℕ
slot_of c g s = ((c - 1) * 16 + column_of g) * 256 + s

pub record SlotIs (c g s j : ℕ) : Type 0 where
  pub same : j ≡ slot_of c g s
  pub below : j < 32768
  pub byte : s < 256

-- the slot of the record at byte i
abbrev pub slot_at : List ℕ → ℕ → ℕ
slot_at a i = slot_of (class_at a i) (group_at a i) (subclass_at a i)

-- the counters tell how many of each triple are among the records that start at the bytes l
pub record Counted (a l counts : List ℕ) : Type 0 where
  pub long : length counts ≡ 32768
  pub each : (c g s : ℕ) → Known c g s → get_or counts (slot_of c g s) 0 ≡ how_many a c g s l
