-- A number in decimal, as a list of the digits' bytes: the last digit after those of the number without it. Assumes nothing.
use Rattle.std.specs.Prelude.{ℕ, zero, suc, ◌+◌, ◌/◌, ◌%◌, ◌≡◌, Bool, true, false, List, [], ◌∷◌, ◌++◌, ltb, length}
use Rattle.std.proofs.lemmas.List.Edits.{sets}

-- the digits of v, k of them at most; `single` says that v is below 10
unfoldable pub digits : ℕ → Bool → ℕ → List ℕ
digits zero single v = []
digits (suc k) true v = (48 + v) ∷ []
digits (suc k) false v = digits k (ltb (v / 10) 10) (v / 10) ++ ((48 + v % 10) ∷ [])

-- v in decimal: "0" for 0, and else no zero before its first digit. No number has more digits than v + 1
unfoldable pub decimal : ℕ → List ℕ
decimal v = digits (suc v) (ltb v 10) v

-- a number, and the byte b after it
abbrev pub column : ℕ → ℕ → List ℕ
column v b = decimal v ++ (b ∷ [])

-- the text stands in the room from byte i on, and r is the byte after it; the others are kept
pub record Puts (room : List ℕ) (i : ℕ) (text : List ℕ) (r : ℕ) (exit : List ℕ) : Type 0 where
  pub next : r ≡ i + length text
  pub put : exit ≡ sets room i text
