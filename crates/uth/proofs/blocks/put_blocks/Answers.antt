-- `uth::blocks::put_blocks` meets its contract. The invariant: putting the blocks that are left gives what putting all does. Assumes nothing.
use mathlib.Core.Path.{◌≡◌, refl, sym, ap, ◌∙◌}
use Prim.Native.Nat.{◌+◌, ◌-◌, ◌*◌, ◌<◌}
use native.Mathlib.Omega.{arith}
use lib.ListN.{length, length-set}
use Rattle.uth.specs.Blocks.{row_of, pair_of}
use Rattle.uth.proofs.BlockLaws.{put_one, put_none}
use Rattle.uth.proofs.blocks.put_blocks.Goals as goal

pub shape_of-blocks : goal.shape_of-blocks
shape_of-blocks c = c.loop-k.invariant.2

pub shape_of-values : goal.shape_of-values
shape_of-values c = c.loop-k.invariant.3

pub loop-k-init : goal.loop-k-init
loop-k-init c =
    let i : c.args.first + 0 ≡ c.args.first = omega arith in
    let n : c.args.n - 0 ≡ c.args.n = omega arith in
    let b : c.args.from + 72 * 0 ≡ c.args.from = omega arith in
    (rw (i, n, b), rw (i, n, b), refl, refl)

pub put_block-requires : goal.put_block-requires
put_block-requires c =
    let x = c.loop-k in
    (omega (arith, x.invariant.2, c.requires.1), omega (arith, x.invariant.3, c.requires.2))

pub loop-k-preserved : goal.loop-k-preserved
loop-k-preserved c =
    let x = c.loop-k in
    let t = c.args in
    let a = t.bytes.now in
    let w = c.put_block.ensures in
    let v = c.block_of.ensures in
    let h : 0 < t.n - x.k = omega arith in
    let i : t.first + (x.k + 1) ≡ t.first + x.k + 1 = omega arith in
    let n : t.n - (x.k + 1) ≡ t.n - x.k - 1 = omega arith in
    let b : t.from + 72 * (x.k + 1) ≡ t.from + 72 * x.k + 72 = omega arith in (
      rw (i, n, b, w.0, v) (sym (put_one row_of a x.blocks (t.first + x.k) t.line t.column (t.n - x.k) (t.from + 72 * x.k) h) ∙ x.invariant.0),
      rw (i, n, b, w.1, v) (sym (put_one pair_of a x.values (t.first + x.k) t.line t.column (t.n - x.k) (t.from + 72 * x.k) h) ∙ x.invariant.1),
      ap length w.0 ∙ simp length-set x.invariant.2,
      ap length w.1 ∙ simp length-set x.invariant.3,
    )

pub returns : goal.returns
returns c =
    let x = c.loop-k in
    let t = c.args in
    let z : t.n - x.k ≡ 0 = omega arith in (
      sym (put_none row_of t.bytes.now x.blocks (t.first + x.k) t.line t.column (t.n - x.k) (t.from + 72 * x.k) z) ∙ x.invariant.0,
      sym (put_none pair_of t.bytes.now x.values (t.first + x.k) t.line t.column (t.n - x.k) (t.from + 72 * x.k) z) ∙ x.invariant.1,
    )
