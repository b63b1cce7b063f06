-- The invariant of the loop.
use mathlib.Core.Path.{◌≡◌}
use mathlib.Core.List.{map}
use Prim.Native.Nat.{◌-◌}
use lib.ListN.{length}
use Rattle.uth.specs.Judge.{judge_from}
use Rattle.uth.specs.Blocks.{blocks_from, row_of, pair_of, put_all}
use Rattle.uth.proofs.blocks.fill.Given as goal

abbrev pub invariant-loop : goal.invariant-loop
invariant-loop l = (judge_from l.bytes l.m 642 0 ≡ judge_from l.bytes (l.m - l.counter) l.p l.i) × (put_all l.blocks l.i (map row_of (blocks_from l.bytes (l.m - l.counter) l.p)) ≡ put_all l.initial.blocks 0 (map row_of (blocks_from l.bytes l.m 642))) × (put_all l.values l.i (map pair_of (blocks_from l.bytes (l.m - l.counter) l.p)) ≡ put_all l.initial.values 0 (map pair_of (blocks_from l.bytes l.m 642))) × (length l.blocks ≡ length l.initial.blocks) × (length l.values ≡ length l.initial.values)
