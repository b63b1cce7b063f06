-- What the code reads of a segment that was answered: its line, its column and N are the numbers of their bytes, and its blocks lie in the file.
-- By the laws of fields. Assumes nothing.
use mathlib.Core.Path.{◌≡◌, sym, ap, ◌∙◌}
use mathlib.Core.List.{List}
use Prim.Native.Nat.{ℕ, ◌+◌, ◌≤◌, ◌<◌}
use native.Mathlib.Omega.{arith}
use lib.IntN.{nat_abs}
use lib.ListN.{length}
use Rattle.calendar.specs.Said.{answer}
use Rattle.meter.specs.Integer.{be_at, twos, half_of}
use Rattle.uth.specs.Layout.{line, column, blocks, end_at, is_grid, is_some}
use Rattle.uth.specs.Judge.{segment_at}
use Rattle.uth.proofs.FieldLaws.{grid_number, some_number, some_least}
use Rattle.uth.proofs.JudgeLaws.{answered}

module _ (a : List ℕ) (p n : ℕ) (e : segment_at a p ≡ answer n) where
  pub ends_within : end_at p n ≤ length a
  ends_within = (answered a p n e).within

  pub counted_as : nat_abs (blocks a p) ≡ n
  counted_as = (answered a p n e).segment.counted

  module _ (v : ℕ) (l : v < 4294967296) where
    pub line_is : v ≡ be_at a p 4 → nat_abs (line a p) ≡ v
    line_is w = ap (λ (x : ℕ). nat_abs (twos (half_of 4) x)) (sym w) ∙ grid_number v l (ap (λ (x : ℕ). is_grid (twos (half_of 4) x)) w ∙ (answered a p n e).segment.lined)

    pub column_is : v ≡ be_at a (p + 4) 4 → nat_abs (column a p) ≡ v
    column_is w = ap (λ (x : ℕ). nat_abs (twos (half_of 4) x)) (sym w) ∙ grid_number v l (ap (λ (x : ℕ). is_grid (twos (half_of 4) x)) w ∙ (answered a p n e).segment.columned)

    pub blocks_are : v ≡ be_at a (p + 32) 4 → n ≡ v
    blocks_are w =
        sym counted_as
        ∙ ap (λ (x : ℕ). nat_abs (twos (half_of 4) x)) (sym w)
        ∙ some_number v l (ap (λ (x : ℕ). is_some (twos (half_of 4) x)) w ∙ (answered a p n e).segment.some)

  pub one_least : 1 ≤ n
  one_least = omega (arith, counted_as, some_least (blocks a p) (answered a p n e).segment.some)
