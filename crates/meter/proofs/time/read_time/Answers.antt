-- `meter::time::read_time` meets its contract: the part, the bits that are all one, then the millisecond. Assumes nothing.
use Rattle.std.specs.declared.option.Option.TheVariants.{None}
use Rattle.meter.specs.Instant as T
use Rattle.meter.specs.Time.{is_milli, time_of, time_at}
use Rattle.meter.proofs.TimeLaws.{bits_none, bits_some, time_read}
use Rattle.meter.proofs.IntegerLaws.{be_at_lt}
use Rattle.meter.specs.Lent.{inside}
use Prim.Native.Nat.{◌/◌, ◌%◌}
use native.Mathlib.Omega.{arith}
use borrow.Author.Tests.{not-true, not-false, leb-true}
use mathlib.Core.Bool.{true, false}
use mathlib.Core.Path.{◌≡◌, sym, ap, ◌∙◌}
use Rattle.meter.proofs.time.read_time.Goals as goal

pub returns-then-not-holds : goal.returns-then-not-holds
returns-then-not-holds c =
    let i : inside c.args.bytes.now c.args.at (6) ≡ false = sym c.holds.ensures ∙ not-true c.holds.result c.if-not-holds.true-raw in
    simp i

pub be-bits-requires : goal.be-bits-requires
be-bits-requires c =
    let i : inside c.args.bytes.now c.args.at (6) ≡ true = sym c.holds.ensures ∙ not-false c.holds.result c.if-not-holds.false-raw in
    (omega arith, leb-true _ _ i)

pub returns-then-bits-eq-UNDEFINED : goal.returns-then-bits-eq-UNDEFINED
returns-then-bits-eq-UNDEFINED c =
    let i : inside c.args.bytes.now c.args.at (6) ≡ true = sym c.holds.ensures ∙ not-false c.holds.result c.if-not-holds.false-raw in
    let a = c.args in
    let t : time_at a.bytes.now a.at ≡ None = ap time_of (sym c.be-bits.ensures) ∙ bits_none c.be-bits.result c.if-bits-eq-UNDEFINED.true in
    sym (time_read a.bytes.now a.at None i t)

pub overflow_cast-day : goal.overflow_cast-day
overflow_cast-day c =
    let a = c.args in
    omega (arith, c.be-bits.ensures, be_at_lt a.bytes.now (λ k. (c.shared_slice_known-1.given k).fits) a.at 6)

pub returns-then-not-is_milli : goal.returns-then-not-is_milli
returns-then-not-is_milli c =
    let i : inside c.args.bytes.now c.args.at (6) ≡ true = sym c.holds.ensures ∙ not-false c.holds.result c.if-not-holds.false-raw in
    let a = c.args in
    let b = c.be-bits.result in
    let t : time_at a.bytes.now a.at ≡ T.At (b / 0x1_0000_0000) (b % 0x1_0000_0000) = ap time_of (sym c.be-bits.ensures) ∙ bits_some b c.if-bits-eq-UNDEFINED.false in
    let m : is_milli (b / 0x1_0000_0000) (b % 0x1_0000_0000) ≡ false = sym c.is_milli.ensures ∙ not-true c.is_milli.result c.if-not-is_milli.true-raw in
    sym (time_read a.bytes.now a.at _ i t ∙ simp m)

pub returns : goal.returns
returns c =
    let i : inside c.args.bytes.now c.args.at (6) ≡ true = sym c.holds.ensures ∙ not-false c.holds.result c.if-not-holds.false-raw in
    let a = c.args in
    let b = c.be-bits.result in
    let t : time_at a.bytes.now a.at ≡ T.At (b / 0x1_0000_0000) (b % 0x1_0000_0000) = ap time_of (sym c.be-bits.ensures) ∙ bits_some b c.if-bits-eq-UNDEFINED.false in
    let m : is_milli (b / 0x1_0000_0000) (b % 0x1_0000_0000) ≡ true = sym c.is_milli.ensures ∙ not-false c.is_milli.result c.if-not-is_milli.false-raw in
    sym (time_read a.bytes.now a.at _ i t ∙ simp m)
