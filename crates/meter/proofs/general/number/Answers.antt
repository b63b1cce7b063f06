-- `meter::general::number` meets its contract. The invariant: v is the number of the bytes passed, and so below 23 * 10 ^ j after j of
-- them, since a byte is below 256. Assumes nothing.
use borrow.Author.Rules.{rules}
use Prim.Native.Nat.{◌+◌, ◌<◌}
use native.Mathlib.Omega.{arith}
use native.Mathlib.Numerals.{add-one}
use mathlib.Core.Path.{◌≡◌, ap, ◌∙◌}
use Rattle.meter.specs.General.{number_of}
use Rattle.meter.proofs.Parts.{part_length, part_at}
use Rattle.meter.proofs.GeneralRuns.{number_below}
use Rattle.meter.proofs.general.number.Goals as goal

pub loop-b-init : goal.loop-b-init
unfolding number_of
loop-b-init c = search rules

pub overflow_mul-v : goal.overflow_mul-v
overflow_mul-v c =
    let a = c.args in
    omega (arith, part_length a.bytes.now a.at a.n c.requires.1, number_below a.bytes.now (λ k. (c.type_inv.bytes k).fits) a.at c.loop-b.b-index 4 (omega (arith, part_length a.bytes.now a.at a.n c.requires.1)))

pub overflow_add-v : goal.overflow_add-v
overflow_add-v c =
    let a = c.args in
    let k : c.loop-b.b-index < a.n = omega (arith, part_length a.bytes.now a.at a.n c.requires.1) in
    omega (arith, number_below a.bytes.now (λ k. (c.type_inv.bytes k).fits) a.at c.loop-b.b-index 4 (omega arith), part_at a.bytes.now a.at a.n c.loop-b.b-index k, c.type_inv.bytes (a.at + c.loop-b.b-index))

pub loop-b-preserved : goal.loop-b-preserved
unfolding number_of
loop-b-preserved c =
    let a = c.args in
    let k : c.loop-b.b-index < a.n = omega (arith, part_length a.bytes.now a.at a.n c.requires.1) in
    rw add-one (omega (arith, part_at a.bytes.now a.at a.n c.loop-b.b-index k))

pub returns : goal.returns
returns c =
    let a = c.args in
    let e : c.loop-b.b-index ≡ a.n = omega (arith, part_length a.bytes.now a.at a.n c.requires.1) in
    c.loop-b.invariant ∙ ap (number_of a.bytes.now a.at) e
