-- WHAT THE LAWS OF A TABLE REST ON: locality, that a fault which is shown at k depends on the first k bytes alone; and that number order orders numbers
-- alone, one to a place. Assumes nothing.
use Rattle.std.specs.Prelude.{ℕ, ◌≤◌, ◌<◌, ◌≡◌, List, get_or}
use Rattle.tables.specs.Table.{Row, Table}

-- the first k bytes are the same
pub record Same (a b : List ℕ) (k : ℕ) : Type 0 where
  pub byte : (j : ℕ) → j < k → get_or a j 0 ≡ get_or b j 0

pub record Lawful (T : Table) : Type 0 where
  -- a fault of a that k bytes show is one of b too, with the same row
  pub alike : {a b : List ℕ} {k : ℕ} → Same a b k → (f : T.Fault a) → (T.row f).shown ≤ k → (g : T.Fault b) × (T.row f ≡ T.row g)
  -- number order leaves where a fault is shown
  pub kept : (r : Row) → (T.order r).shown ≡ r.shown
  -- and puts no two rows at one place
  pub one : (r s : Row) → T.order r ≡ T.order s → r ≡ s
