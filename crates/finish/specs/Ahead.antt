-- THE WALK over the records of a product: from each record its size leads to the next. What every walk of this crate and of those above it that goes by
-- the starts of records rests on. Assumes nothing.
use Rattle.std.specs.Prelude.{ℕ, ◌+◌, ◌≤◌, ◌≡◌, true, List, [], ◌∷◌, length}
use Rattle.record.specs.Header.{is_group}
use Rattle.judge.specs.Table.{class_at, size_at}
use Rattle.finish.specs.Rows.{group_at}

-- a record of a product, at byte i
pub record Record (a : List ℕ) (i : ℕ) : Type 0 where
  pub least : 20 ≤ size_at a i
  pub most : i + size_at a i ≤ length a
  pub one : 1 ≤ class_at a i
  pub eight : class_at a i ≤ 8
  pub grouped : is_group (group_at a i) ≡ true

-- the records from byte i to the end start at the bytes l
pub data Ahead (a : List ℕ) : ℕ → List ℕ → Type 0 where
  none : {i : ℕ} → length a ≤ i → Ahead a i []
  more : {i : ℕ} {l : List ℕ} → Record a i → Ahead a (i + size_at a i) l → Ahead a i (i ∷ l)
