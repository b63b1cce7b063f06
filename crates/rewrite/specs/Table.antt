-- The table of kinds, by which a pointer is found for each class, group and subclass: what stands at a kind's place is one more than the bytes
-- before its first record among those that are taken, or 0. Assumes nothing.
use Rattle.std.specs.Prelude.{ℕ, zero, suc, ◌+◌, ◌*◌, ◌<◌, ◌≡◌, cond, List, eqb, length, get_or, set}
use Rattle.parts.specs.Parts.{bytes}
use Rattle.parts.specs.Kinds.{place_of, kind_at}

-- place j gets n + 1, if it is empty
abbrev pub noted : List ℕ → ℕ → ℕ → List ℕ
noted t j n = cond (eqb (get_or t j 0) 0) (set t j (suc n)) t

-- the place of a kind
pub record SlotOf (c g s j : ℕ) : Type 0 where
  pub below : j < 20480
  pub same : kind_at j ≡ (c * 256 + g) * 256 + s

-- the table holds the places of the kinds of the records ks, n bytes in all
pub record Holds (ks : List (List ℕ)) (table : List ℕ) (n : ℕ) : Type 0 where
  pub long : length table ≡ 20480
  pub count : n ≡ bytes ks
  pub place : (j : ℕ) → j < 20480 → get_or table j 0 ≡ place_of (kind_at j) 0 ks

-- how many of the places below n are not empty
unfoldable pub filled_to : List ℕ → ℕ → ℕ
filled_to t zero = 0
filled_to t (suc n) = filled_to t n + cond (eqb (get_or t n 0) 0) 0 1
