-- What a comparison asks of a record. Assumes nothing.
use Rattle.std.specs.Prelude.{ℕ, ◌+◌, ◌≤◌, List, length}
use Rattle.demands.specs.Product.{size}

-- a record stands at byte i, all of it
pub record Standing (a : List ℕ) (i : ℕ) : Type 0 where
  pub header : i + 20 ≤ length a
  pub most : i + size a i ≤ length a
