-- `replay::write::put_lengths` meets its contract. The invariant: the lengths before k stand (PutLaws). Assumes nothing.
use mathlib.Core.Path.{◌≡◌, subst}
use Prim.Native.Nat.{ℕ}
use native.Mathlib.Omega.{arith}
use lib.ListN.{length}
use Rattle.replay.specs.Steps.{PutsLengths}
use Rattle.replay.proofs.PutLaws.{no_lengths, length_put}
use Rattle.replay.proofs.write.put_lengths.Goals as goal

pub loop-k-init : goal.loop-k-init
loop-k-init c = no_lengths _ _

pub put_number-requires : goal.put_number-requires
put_number-requires c =
    (omega (arith, c.loop-k.invariant.kept.long, c.requires, c.loop-k-test.true), c.wide.ensures.1)

pub loop-k-preserved : goal.loop-k-preserved
loop-k-preserved c =
    length_put c.loop-k.invariant c.put_number.ensures c.wide.ensures.0 c.wide.ensures.1 (omega (arith, c.requires))

pub shape_of-room : goal.shape_of-room
shape_of-room c = c.loop-k.invariant.kept.long

pub returns : goal.returns
returns c =
    let ls = c.args.lengths.now in
    let e : c.loop-k.k ≡ length ls = omega arith in
    subst (λ (k : ℕ). PutsLengths ls k c.args.room.now c.loop-k.room) e c.loop-k.invariant
