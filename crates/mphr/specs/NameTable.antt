-- THE NAME TABLE (01, "MPHR": "The name table holds all 72 times 30 bytes; one statement over the whole of it says that each entry is capitals,
-- digits or underscores and then spaces, and that no two are equal"): that statement, a test of the table's bytes. Assumes nothing.
use Rattle.std.specs.Prelude.{ℕ, zero, suc, Bool, true, not, cond, ◌&&◌, ◌||◌, List, [], ◌∷◌, eqb, leb, length, get_or, take, drop}
use Rattle.mphr.specs.Lookup.{same}

abbrev pub all : {A : Type 0} → (A → Bool) → List A → Bool
all p [] = true
all p (x ∷ xs) = p x && all p xs

-- a capital, a digit or an underscore
abbrev pub letter : ℕ → Bool
letter x = (leb 65 x && leb x 90) || (leb 48 x && leb x 57) || eqb x 95

abbrev pub space : ℕ → Bool
space x = eqb x 32

-- letters, and then spaces
abbrev pub padded : List ℕ → Bool
padded [] = true
padded (x ∷ xs) = cond (letter x) (padded xs) (all space (x ∷ xs))

-- an entry has a letter at least
abbrev pub is_entry : List ℕ → Bool
is_entry r = letter (get_or r 0 0) && padded r

-- r is none of the others, and no two of a list are equal
abbrev pub absent : List ℕ → List (List ℕ) → Bool
absent r rs = all (λ (s : List ℕ). not (same r s)) rs

abbrev pub distinct : List (List ℕ) → Bool
distinct [] = true
distinct (r ∷ rs) = absent r rs && distinct rs

-- the first n entries of a table of bytes, 30 bytes each
unfoldable pub entries : ℕ → List ℕ → List (List ℕ)
entries zero t = []
entries (suc n) t = take 30 t ∷ entries n (drop 30 t)

-- THE STATEMENT
unfoldable pub is_name_table : List ℕ → Bool
is_name_table t = eqb (length t) 2160 && (all is_entry (entries 72 t) && distinct (entries 72 t))
