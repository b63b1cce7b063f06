-- THE ROWS of a product's records (02, Six: "Let the index be a list of rows the caller lends: start, size, class, group, subclass, version, and the
-- row's ordinal among rows of its triple, from 0"). A function of where the records start. Assumes nothing.
use Rattle.std.specs.Prelude.{ℕ, ◌+◌, Bool, cond, ◌&&◌, List, [], ◌∷◌, eqb, get_or}
use Rattle.judge.specs.Table.{class_at, size_at}

-- of the record at byte i: its group, its subclass, its version
abbrev pub group_at : List ℕ → ℕ → ℕ
group_at a i = get_or a (i + 1) 0

abbrev pub subclass_at : List ℕ → ℕ → ℕ
subclass_at a i = get_or a (i + 2) 0

abbrev pub version_at : List ℕ → ℕ → ℕ
version_at a i = get_or a (i + 3) 0

-- the record at byte j is of class c, group g and subclass s
abbrev pub is_of : List ℕ → ℕ → ℕ → ℕ → ℕ → Bool
is_of a c g s j = eqb (class_at a j) c && (eqb (group_at a j) g && eqb (subclass_at a j) s)

-- how many of the records that start at the bytes l are
abbrev pub how_many : List ℕ → ℕ → ℕ → ℕ → List ℕ → ℕ
how_many a c g s [] = 0
how_many a c g s (j ∷ l) = how_many a c g s l + cond (is_of a c g s j) 1 0

-- "the row's ordinal among rows of its triple, from 0": how many of the records before it have its class, group and subclass
abbrev pub ordinal : List ℕ → List ℕ → ℕ → ℕ
ordinal a before i = how_many a (class_at a i) (group_at a i) (subclass_at a i) before

-- "start, size, class, group, subclass, version, and the row's ordinal"
abbrev pub row : List ℕ → ℕ → ℕ → List ℕ
row a i n = i ∷ size_at a i ∷ class_at a i ∷ group_at a i ∷ subclass_at a i ∷ version_at a i ∷ n ∷ []

-- the rows of the records that start at the bytes l; those before them start at `before`
abbrev pub rows_after : List ℕ → List ℕ → List ℕ → List (List ℕ)
rows_after a before [] = []
rows_after a before (i ∷ l) = row a i (ordinal a before i) ∷ rows_after a (i ∷ before) l

-- THE ROWS of the records that start at the bytes l
abbrev pub rows_of : List ℕ → List ℕ → List (List ℕ)
rows_of a l = rows_after a [] l

-- the start in a row
abbrev pub start_of : List ℕ → ℕ
start_of r = get_or r 0 0
