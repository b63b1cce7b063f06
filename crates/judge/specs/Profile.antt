-- A PROFILE: a table of what it lets through. A line has a class, a group, the least and the greatest subclass, the least and the greatest version. A class
-- that no line has is not spoken of, and passes. Assumes nothing.
use Rattle.std.specs.Prelude.{◌≡◌, ℕ, ◌+◌, ◌<◌, ◌≤◌, Bool, true, false, not, ◌&&◌, ◌||◌, List, [], ◌∷◌, length, ◌==◌, nat_le, slice_index, slice_index_or}
use Rattle.judge.specs.Table.{class_at, size_at}
use Rattle.judge.specs.Stretch.{Even}

-- the line lets a record of class c, group g, subclass s and version v through
unfoldable pub is_let : List ℕ → ℕ → ℕ → ℕ → ℕ → Bool
is_let l c g s v =
    (slice_index l 0 == c) && (slice_index l 1 == g && (nat_le (slice_index l 2) s && (nat_le s (slice_index l 3) && (nat_le (slice_index l 4) v && nat_le v (slice_index l 5)))))

-- some line does
abbrev pub lets : List (List ℕ) → ℕ → ℕ → ℕ → ℕ → Bool
lets [] c g s v = false
lets (l ∷ p) c g s v = is_let l c g s v || lets p c g s v

-- the profile speaks of class c
abbrev pub speaks : List (List ℕ) → ℕ → Bool
speaks [] c = false
speaks (l ∷ p) c = slice_index l 0 == c || speaks p c

abbrev pub allows : List (List ℕ) → ℕ → ℕ → ℕ → ℕ → Bool
allows p c g s v = lets p c g s v || not (speaks p c)

-- the record at byte i meets the profile
abbrev pub is_allowed : List (List ℕ) → List ℕ → ℕ → Bool
is_allowed p a i = allows p (class_at a i) (slice_index a (i + 1)) (slice_index a (i + 2)) (slice_index a (i + 3))

-- the records from byte i up to byte j, each after the other by its size, meet the profile
pub data Meeting (p : List (List ℕ)) (a : List ℕ) : ℕ → ℕ → Type 0 where
  over : {i : ℕ} → Meeting p a i i
  further : {i j : ℕ} → is_allowed p a i ≡ true → Meeting p a (i + size_at a i) j → Meeting p a i j

-- ---- what the functions behind it ask and answer
-- r is a line of the profile that lets such a record through, or none does
pub record LineIs (p : List (List ℕ)) (c g s v r : ℕ) : Type 0 where
  pub found : r < length p → is_let (slice_index_or p r []) c g s v ≡ true
  pub none : length p ≤ r → lets p c g s v ≡ false

-- the records from byte i up to byte e are of z bytes, and have come
pub record OneSize (a : List ℕ) (z i e : ℕ) : Type 0 where
  pub even : Even a z i e
  pub least : 20 ≤ z
  pub come : e ≤ length a

-- of those the ones before byte r meet the profile
pub record Passed (p : List (List ℕ)) (a : List ℕ) (z i r e : ℕ) : Type 0 where
  pub meets : Meeting p a i r
  pub left : OneSize a z r e
