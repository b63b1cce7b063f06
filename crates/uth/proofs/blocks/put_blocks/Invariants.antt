-- The invariant of the loop.
use mathlib.Core.Path.{◌≡◌}
use mathlib.Core.List.{map}
use Prim.Native.Nat.{◌+◌, ◌-◌, ◌*◌}
use lib.ListN.{length}
use Rattle.uth.specs.Blocks.{blocks_in, row_of, pair_of, put_all}
use Rattle.uth.proofs.blocks.put_blocks.Given as goal

abbrev pub invariant-loop-k : goal.invariant-loop-k
invariant-loop-k l = (put_all l.blocks (l.first + l.k) (map row_of (blocks_in l.bytes l.line l.column (l.n - l.k) (l.from + 72 * l.k))) ≡ put_all l.initial.blocks l.first (map row_of (blocks_in l.bytes l.line l.column l.n l.from))) × (put_all l.values (l.first + l.k) (map pair_of (blocks_in l.bytes l.line l.column (l.n - l.k) (l.from + 72 * l.k))) ≡ put_all l.initial.values l.first (map pair_of (blocks_in l.bytes l.line l.column l.n l.from))) × (length l.blocks ≡ length l.initial.blocks) × (length l.values ≡ length l.initial.values)
