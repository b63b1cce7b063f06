-- THE STARTS in the rows are the index that was (02, Six: "Prove that the starts in the rows equal the old index on every product"): the index held
-- the starts of the records, the main header's first, from place 0 on, and what stood at its other places. By induction on the records.
-- Assumes nothing.
use Prim.Native.Nat.{ℕ, zero, suc, ◌+◌, ◌<◌}
use native.Mathlib.Omega.{arith}
use mathlib.Core.Path.{◌≡◌, refl, ap, ◌∙◌}
use mathlib.Core.List.{List, [], ◌∷◌, map}
use lib.ListN.{length, get_or, set}
use Rattle.finish.specs.Rows.{rows_after, rows_of, start_of}
use Rattle.finish.specs.Finish.{starts, put, Filled}

starts_after : (a before l : List ℕ) → map start_of (rows_after a before l) ≡ l
starts_after a before [] = refl
starts_after a before (i ∷ l) = ap (λ (m : List ℕ). i ∷ m) (starts_after a (i ∷ before) l)

pub starts_of_rows : (a l : List ℕ) → map start_of (rows_of a l) ≡ l
starts_of_rows a l = starts_after a [] l

map_set : {A B : Type 0} (f : A → B) (l : List A) (i : ℕ) (v : A) → map f (set l i v) ≡ set (map f l) i (f v)
map_set f [] i v = refl
map_set f (x ∷ l) zero v = refl
map_set f (x ∷ l) (suc i) v = ap (λ (m : List _). f x ∷ m) (map_set f l i v)

map_put : (k : ℕ) (l rows : List (List ℕ)) → map start_of (put k l rows) ≡ put k (map start_of l) (map start_of rows)
map_put k [] rows = refl
map_put k (r ∷ l) rows = map_put (k + 1) l (set rows k r) ∙ ap (put (k + 1) (map start_of l)) (map_set start_of rows k r)

-- THE LAW
pub rows_index :
    {a : List ℕ} {rows rows' : List (List ℕ)} {c : ℕ} (f : Filled a rows c rows')
    → map start_of rows' ≡ put 0 (0 ∷ starts f.covered.way) (map start_of rows)
rows_index {a} {rows} f =
    let l : List ℕ = 0 ∷ starts f.covered.way in
    ap (map start_of) f.index ∙ map_put 0 (rows_of a l) rows ∙ ap (λ (m : List ℕ). put 0 m (map start_of rows)) (starts_of_rows a l)

-- row by row
start_after : (a before l : List ℕ) (j : ℕ) → j < length l → start_of (get_or (rows_after a before l) j []) ≡ get_or l j 0
start_after a before [] j h = absurd (omega arith)
start_after a before (i ∷ l) zero h = refl
start_after a before (i ∷ l) (suc j) h = start_after a (i ∷ before) l j (omega arith)

pub start_of_row : (a l : List ℕ) (j : ℕ) → j < length l → start_of (get_or (rows_of a l) j []) ≡ get_or l j 0
start_of_row a l j h = start_after a [] l j h
