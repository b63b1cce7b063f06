-- What it is that an answer agrees with a case. Assumes nothing.
use Rattle.std.specs.Prelude.{◌≡◌, ℕ, ◌+◌, ◌*◌, ◌<◌, true, List, slice_index}
use Rattle.cases.specs.Case.{number_at}
use Rattle.cases.specs.declared.answer.Answer.{Answer}

-- the answer's first n numbers, or all five, stand in a from at on, 8 bytes each
abbrev pub HasValues : List ℕ → ℕ → Answer → ℕ → Type 0
HasValues a at x n = (i : ℕ) → i < 5 → i < n → slice_index x.values i ≡ number_at a (at + 8 * i) 8

-- the answer is the one that stands in a from at on: its tag, its number, and its first n numbers; and what was lent is as it should be
pub record Agrees (a : List ℕ) (at : ℕ) (x : Answer) (n : ℕ) : Type 0 where
  pub tag : x.tag ≡ slice_index a at
  pub number : x.number ≡ slice_index a (at + 1)
  pub values : HasValues a (at + 8) x n
  pub kept : x.kept ≡ true
