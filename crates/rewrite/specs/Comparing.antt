-- What a comparison of records answers, in what is compared of them. Assumes nothing.
use Rattle.std.specs.Prelude.{ℕ, ◌+◌, ◌-◌, ◌≤◌, ◌≡◌, Bool, List, ◌++◌, length, take, drop}
use Rattle.bytewise.specs.Comparing.{Decides}
use Rattle.parts.specs.Join.{seen}
use Rattle.parts.specs.Walk.{Walk}

-- ---- records, but for the times of their headers
-- the n bytes of a from i on without the two times
abbrev pub untimed_at : List ℕ → ℕ → ℕ → List ℕ
untimed_at a i n = take 8 (drop i a) ++ take (n - 20) (drop (i + 20) a)

pub record Untimable (a b : List ℕ) (i n : ℕ) : Type 0 where
  pub small : length a ≤ 2147483647
  pub least : 20 ≤ n
  pub first : i + n ≤ length a
  pub second : i + n ≤ length b

-- two texts of as many bytes, each of records one after the other
pub record Texts (p q : List ℕ) : Type 0 where
  pub small : length p ≤ 2147483647
  pub long : length p ≡ length q
  pub first : List (List ℕ)
  pub second : List (List ℕ)
  pub walk_1 : Walk p 0 first
  pub walk_2 : Walk q 0 second

-- b says whether the records are the same, in what is compared of them
abbrev pub SeenIs : Bool → List ℕ → List ℕ → Bool → Type 0
SeenIs i p q b = (xs ys : List (List ℕ)) → Walk p 0 xs → Walk q 0 ys → Decides (seen i xs ≡ seen i ys) b

-- n bytes of each
pub record Seeable (s t : List ℕ) (from at n : ℕ) : Type 0 where
  pub first : from + n ≤ length s
  pub second : at + n ≤ length t
  pub texts : Texts (take n (drop from s)) (take n (drop at t))
