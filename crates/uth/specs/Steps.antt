-- What the code's own steps ask for. Assumes nothing.
use Rattle.std.specs.Prelude.{ℕ, ◌≤◌, ◌<◌, ◌≡◌, List, nat_abs}
use Rattle.calendar.specs.Said.{answer}
use Rattle.uth.specs.Layout.{segments}
use Rattle.uth.specs.Judge.{judge_from, judge_of}

-- a file of m segments that is read, and rooms for its n blocks
pub record Fills (a : List ℕ) (m rows pairs : ℕ) : Type 0 where
  pub n : ℕ
  pub counted : nat_abs (segments a) ≡ m
  pub read : judge_from a m 642 0 ≡ answer n
  pub rowed : n ≤ rows
  pub paired : n ≤ pairs

-- a file that is read, with more than k blocks
pub record Finds (a : List ℕ) (k : ℕ) : Type 0 where
  pub n : ℕ
  pub read : judge_of a ≡ answer n
  pub has : k < n
