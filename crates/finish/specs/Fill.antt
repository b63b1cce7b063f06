-- What is known while the list of rows is filled. No promise names these: they say what a store has come to. Assumes nothing.
use Rattle.std.specs.Prelude.{ℕ, ◌+◌, ◌≤◌, ◌<◌, ◌≡◌, List, length, get_or, set}
use Rattle.judge.specs.Table.{size_at}
use Rattle.judge.specs.Stretch.{Even}
use Rattle.finish.specs.Ahead.{Record, Ahead}
use Rattle.finish.specs.Rows.{subclass_at, row, rows_after, rows_of}
use Rattle.finish.specs.Finish.{put}
use Rattle.finish.specs.Slots.{slot_at, Counted}
use Rattle.finish.specs.declared.fill.Reached.{Reached}

-- what the filling asks of the product, whose records start at the bytes l, and of the list of rows
pub record Fillable (a : List ℕ) (rows : List (List ℕ)) (l : List ℕ) : Type 0 where
  pub all : Ahead a 0 l
  pub small : length a ≤ 2147483647
  pub room : length l ≤ length rows

-- what is known between two rows: k are in; the records at `before` are done, those at `rest` are left, the first of them at byte i; with their rows
-- written in the list is as it shall be
pub record Filling (a : List ℕ) (rows₀ : List (List ℕ)) (l : List ℕ) (rows : List (List ℕ)) (counts : List ℕ) (k i : ℕ) : Type 0 where
  pub asked : Fillable a rows₀ l
  pub before : List ℕ
  pub rest : List ℕ
  pub ahead : Ahead a i rest
  pub counted : Counted a before counts
  pub done : length before ≡ k
  pub low : k ≤ i
  pub total : k + length rest ≡ length l
  pub size : length rows ≡ length rows₀
  pub same : put k (rows_after a before rest) rows ≡ put 0 (rows_of a l) rows₀

-- what one row asks of the record at byte i, of size z, and what it does
pub record PutRow (a : List ℕ) (rows : List (List ℕ)) (counts : List ℕ) (k i z : ℕ) : Type 0 where
  pub here : Record a i
  pub sized : z ≡ size_at a i
  pub small : length a ≤ 2147483647
  pub place : k < length rows
  pub long : length counts ≡ 32768
  pub few : subclass_at a i < 256 → get_or counts (slot_at a i) 0 ≤ 2147483647

pub record PutsRow (a : List ℕ) (rows : List (List ℕ)) (counts : List ℕ) (k i : ℕ) (rows' : List (List ℕ)) (counts' : List ℕ) : Type 0 where
  pub byte : subclass_at a i < 256
  pub row : rows' ≡ set rows k (row a i (get_or counts (slot_at a i) 0))
  pub counter : counts' ≡ set counts (slot_at a i) (get_or counts (slot_at a i) 0 + 1)

-- what the filling of some records asks, and what it comes to
pub record Onward (a : List ℕ) (rows : List (List ℕ)) (counts : List ℕ) (k i : ℕ) : Type 0 where
  pub rows₀ : List (List ℕ)
  pub list : List ℕ
  pub filling : Filling a rows₀ list rows counts k i
  pub inside : i < length a

-- up to byte `until` the sizes have to be read
pub record Unread (a : List ℕ) (rows : List (List ℕ)) (counts : List ℕ) (k i until : ℕ) : Type 0 where
  pub onward : Onward a rows counts k i
  pub some : i < until
  pub most : until ≤ length a

-- up to byte `end` they are known to be z, one after the other
pub record Read (a : List ℕ) (rows : List (List ℕ)) (counts : List ℕ) (k i z end : ℕ) : Type 0 where
  pub onward : Onward a rows counts k i
  pub some : i < end
  pub most : end ≤ length a
  pub stop : ℕ
  pub even : Even a z i stop
  pub within : end ≤ stop

-- wherever the filling had come to byte i with k rows, it has come to the byte and the count of r
pub record Stretched (a : List ℕ) (rows : List (List ℕ)) (counts : List ℕ) (k i : ℕ) (r : Reached) (rows' : List (List ℕ)) (counts' : List ℕ) : Type 0 where
  pub further : i < r.end
  pub filling : (rows₀ : List (List ℕ)) (l : List ℕ) → Filling a rows₀ l rows counts k i → Filling a rows₀ l rows' counts' r.count r.end

-- what filling all asks: all counters are 0
pub record Empty (a : List ℕ) (rows : List (List ℕ)) (counts : List ℕ) : Type 0 where
  pub list : List ℕ
  pub asked : Fillable a rows list
  pub long : length counts ≡ 32768
  pub zero : (j : ℕ) → j < 32768 → get_or counts j 0 ≡ 0

pub record Fills (a : List ℕ) (rows : List (List ℕ)) (r : ℕ) (rows' : List (List ℕ)) : Type 0 where
  pub filled : (l : List ℕ) → Fillable a rows l → (r ≡ length l) × (rows' ≡ put 0 (rows_of a l) rows)
