-- `meter::integer::be` meets its contract. The invariant: v is the number of the bytes passed. Assumes nothing.
use Rattle.meter.proofs.IntegerLaws.{be_at_le}
use Rattle.meter.proofs.Parts.{part_length, part_at}
use Rattle.meter.specs.Integer.{be_at}
use native.Mathlib.Numerals.{add-one}
use Prim.Native.Nat.{◌+◌, ◌<◌}
use native.Mathlib.Omega.{arith}
use mathlib.Core.Path.{◌≡◌, refl, ap, ◌∙◌}
use Rattle.meter.proofs.integer.be.Goals as goal

pub loop-b-init : goal.loop-b-init
unfolding be_at
loop-b-init c = refl

pub overflow_mul-v : goal.overflow_mul-v
overflow_mul-v c =
    let a = c.args in
    omega (arith, be_at_le a.bytes.now (λ k. (c.type_inv.bytes k).fits) a.at c.loop-b.b-index 7 (omega (arith, part_length a.bytes.now a.at a.n c.requires.1)))

pub overflow_add-v : goal.overflow_add-v
overflow_add-v c =
    let a = c.args in
    let k : c.loop-b.b-index < a.n = omega (arith, part_length a.bytes.now a.at a.n c.requires.1) in
    omega (
      arith,
      be_at_le a.bytes.now (λ k. (c.type_inv.bytes k).fits) a.at c.loop-b.b-index 7 (omega arith),
      part_at a.bytes.now a.at a.n c.loop-b.b-index k,
      c.type_inv.bytes (a.at + c.loop-b.b-index),
    )

pub loop-b-preserved : goal.loop-b-preserved
unfolding be_at
loop-b-preserved c =
    let a = c.args in
    let k : c.loop-b.b-index < a.n = omega (arith, part_length a.bytes.now a.at a.n c.requires.1) in
    rw add-one (omega (arith, part_at a.bytes.now a.at a.n c.loop-b.b-index k))

pub returns : goal.returns
returns c =
    let a = c.args in
    let e : c.loop-b.b-index ≡ a.n = omega (arith, part_length a.bytes.now a.at a.n c.requires.1) in
    c.loop-b.invariant ∙ ap (be_at a.bytes.now a.at) e
