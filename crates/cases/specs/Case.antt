-- What the bytes of a case say. Assumes nothing.
use Rattle.std.specs.Prelude.{◌≡◌, ℕ, ◌+◌, ◌<◌, ◌≤◌, cond, List, length, slice_index, take}
use Rattle.meter.specs.Integer.{be_at, is_width}
use Rattle.meter.specs.Lent.{inside}

-- the number in the n bytes from at on; 0 where they are not all there, or n is no width of an integer
abbrev pub number_at : List ℕ → ℕ → ℕ → ℕ
number_at a at n = cond (inside a at n) (cond (is_width n) (be_at a at n) 0) 0

-- the bytes of the room are those of a from at on
pub record Same (room a : List ℕ) (at : ℕ) : Type 0 where
  pub there : at + length room ≤ length a
  pub bytes : (i : ℕ) → i < length room → slice_index room i ≡ slice_index a (at + i)

-- n counts bytes at the room's start: it is at most the room's length, and so many bytes has that start
abbrev pub IsPrefixLen : ℕ → List ℕ → Type 0
IsPrefixLen n room = (n ≤ length room) × (n ≡ length (take n room))
