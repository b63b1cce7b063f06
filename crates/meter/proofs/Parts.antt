-- The n bytes from i on, as a slice of their own: how many they are, and which byte stands where. Assumes nothing.
use Rattle.std.proofs.Common.{◌≡◌, ℕ, ◌+◌, ◌-◌, ◌<◌, ◌≤◌, List, length, get_or, take, drop, arith, length-take, length-drop, get_or-take, get_or-drop}

abbrev pub part : List ℕ → ℕ → ℕ → List ℕ
part a i n = take (i + n - i) (drop i a)

pub part_length : (a : List ℕ) (i n : ℕ) → i + n ≤ length a → length (part a i n) ≡ n
part_length a i n h = simp (length-take, length-drop) (omega arith)

pub part_at : (a : List ℕ) (i n k : ℕ) → k < n → get_or (part a i n) k 0 ≡ get_or a (i + k) 0
part_at a i n k h = let e : i + n - i ≡ n = omega arith in rw (e, get_or-take, get_or-drop)
