-- NOT EMPTY: a file of one segment, line 1 and column 80, with one block, whose CSR is a NaN, is read, and its blocks tile it. By computing. Assumes
-- nothing.
use mathlib.Core.Path.{◌≡◌, refl}
use mathlib.Core.List.{List, [], ◌∷◌, ◌++◌}
use Prim.Native.Nat.{ℕ}
use lib.Ieee.{binary32, of_bits, of_fields, odd}
use lib.ListN.{replicate}
use Rattle.calendar.specs.Said.{answer}
use Rattle.meter.specs.Integer.{be_at, twos, half_of}
use Rattle.uth.specs.Layout.{is_grid, is_some}
use Rattle.uth.specs.Value.{value_of}
use Rattle.uth.specs.Judge.{segment_at, judge_from, judge_of}
use Rattle.uth.specs.Blocks.{blocks_in, blocks_from, blocks_of}
use Rattle.uth.specs.Tiles.{Tiles}
use Rattle.std.specs.declared.option.Option.TheVariants.{Some, None}
use Rattle.uth.proofs.Tiling.{read_tiles}

-- four bytes
abbrev i4 : ℕ → List ℕ
i4 n = 0 ∷ 0 ∷ 0 ∷ n ∷ []

-- UTH is 20.0
abbrev example : List ℕ
example =
    replicate 542 32
    ++ (replicate 72 0 ++ (i4 1 ++ (replicate 24 0 ++ (i4 1 ++ (i4 80 ++ (replicate 24 0 ++ (i4 1 ++ (replicate 8 0 ++ ((65 ∷ 160 ∷ 0 ∷ 0 ∷ []) ++ ((127 ∷ 192 ∷ 0 ∷ 0 ∷ []) ++ replicate 56 0))))))))))

pub one_block : judge_of example ≡ answer 1
unfolding be_at twos half_of is_grid is_some segment_at judge_from
one_block = refl

pub its_block : blocks_of example ≡ record { line = 1; column = 80; uth = Some (of_bits binary32 0x41a0_0000); csr = None } ∷ []
unfolding be_at twos half_of blocks_in blocks_from value_of of_bits of_fields odd
its_block = refl

pub it_tiles : Tiles example 1
it_tiles = read_tiles example 1 one_block
