-- Place after place: where a product is accepted with c, each of the places 0 to c - 1 has its record's row, every other keeps its own, and the list
-- its length. By induction on the rows that are written. Assumes nothing.
use Prim.Native.Nat.{ℕ, zero, suc, ◌+◌, ◌≤◌, ◌<◌}
use native.Mathlib.Nat.{zero-add}
use native.Mathlib.Omega.{arith}
use mathlib.Core.Path.{◌≡◌, refl, sym, ap, ◌∙◌}
use mathlib.Core.List.{List, [], ◌∷◌}
use lib.ListN.{length, get_or, set, length-set}
use lib.Seq.{get_or-set_same, get_or-set_other}
use Rattle.record.specs.Header.{header_at}
use Rattle.finish.specs.Finish.{starts, put, Filled}
use Rattle.finish.specs.Rows.{row, rows_after, rows_of}
use Rattle.finish.proofs.Filling.{starts_count}

-- a row is where its record starts, what the header there has, and the ordinal
pub row_is : (a : List ℕ) (i n : ℕ) → let h = header_at a i in row a i n ≡ i ∷ h.size ∷ h.class ∷ h.group ∷ h.subclass ∷ h.version ∷ n ∷ []
unfolding header_at
row_is a i n = refl

put_length : (k : ℕ) (l rows : List (List ℕ)) → length (put k l rows) ≡ length rows
put_length k [] rows = refl
put_length k (r ∷ l) rows = put_length (k + 1) l (set rows k r) ∙ simp length-set

put_before : (k j : ℕ) (l rows : List (List ℕ)) → j < k → get_or (put k l rows) j [] ≡ get_or rows j []
put_before k j [] rows h = refl
put_before k j (r ∷ l) rows h = put_before (k + 1) j l (set rows k r) (omega arith) ∙ get_or-set_other rows k j r [] (λ e. omega arith)

put_after : (k j : ℕ) (l rows : List (List ℕ)) → k + length l ≤ j → get_or (put k l rows) j [] ≡ get_or rows j []
put_after k j [] rows h = refl
put_after k j (r ∷ l) rows h = put_after (k + 1) j l (set rows k r) (omega arith) ∙ get_or-set_other rows k j r [] (λ e. omega arith)

put_there : (k j : ℕ) (l rows : List (List ℕ)) → j < length l → k + length l ≤ length rows → get_or (put k l rows) (k + j) [] ≡ get_or l j []
put_there k j [] rows h g = absurd (omega arith)
put_there k zero (r ∷ l) rows h g =
    let e : k + 0 ≡ k = omega arith in
    ap (λ (n : ℕ). get_or (put (k + 1) l (set rows k r)) n []) e ∙ put_before (k + 1) k l (set rows k r) (omega arith) ∙ get_or-set_same rows k r [] (omega arith)
put_there k (suc j) (r ∷ l) rows h g =
    let e : k + suc j ≡ k + 1 + j = omega arith in
    ap (λ (n : ℕ). get_or (put (k + 1) l (set rows k r)) n []) e ∙ put_there (k + 1) j l (set rows k r) (omega arith) (simp length-set (omega arith))

rows_length : (a before l : List ℕ) → length (rows_after a before l) ≡ length l
rows_length a before [] = refl
rows_length a before (i ∷ l) = omega (arith, rows_length a (i ∷ before) l)

module _ {a : List ℕ} {rows rows' : List (List ℕ)} {c : ℕ} (f : Filled a rows c rows') where
  abbrev list : List ℕ
  list = 0 ∷ starts f.covered.way

  -- as many rows as records
  many : length (rows_of a list) ≡ c
  many = omega (arith, rows_length a [] list, starts_count f.covered.way, f.covered.counted)

  pub same_places : length rows' ≡ length rows
  same_places = ap length f.index ∙ put_length 0 (rows_of a list) rows

  pub row_there : (k : ℕ) → k < c → get_or rows' k [] ≡ get_or (rows_of a (0 ∷ starts f.covered.way)) k []
  row_there k h = ap (λ (x : List (List ℕ)). get_or x k []) f.index ∙ ap (λ (n : ℕ). get_or (put 0 (rows_of a list) rows) n []) (sym (zero-add k)) ∙ put_there 0 k (rows_of a list) rows (omega (arith, many)) (omega (arith, many, f.fits))

  pub row_kept : (k : ℕ) → c ≤ k → get_or rows' k [] ≡ get_or rows k []
  row_kept k h = ap (λ (x : List (List ℕ)). get_or x k []) f.index ∙ put_after 0 k (rows_of a list) rows (omega (arith, many))
