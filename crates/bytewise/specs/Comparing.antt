-- What a comparison answers: yes exactly where the two are the same. Assumes nothing.
use Rattle.std.specs.Prelude.{ℕ, ◌+◌, ◌≤◌, ◌≡◌, Bool, true, false, List, length, take, drop}

-- b says whether P holds
pub record Decides (P : Type 0) (b : Bool) : Type 0 where
  pub right : b ≡ true → P
  pub wrong : b ≡ false → P → ⊥

abbrev pub SameIs : List ℕ → List ℕ → Bool → Type 0
SameIs x y b = Decides (x ≡ y) b

-- the n bytes of a from i on and those of b from j on are all there, and are the same
pub record SameParts (a : List ℕ) (i : ℕ) (b : List ℕ) (j n : ℕ) : Type 0 where
  pub first : i + n ≤ length a
  pub second : j + n ≤ length b
  pub same : take n (drop i a) ≡ take n (drop j b)
