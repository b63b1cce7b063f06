-- `record::pointer::write_pointer` meets its contract: 21, then 18, then the bytes, which read back (ReadsBack). Assumes nothing.
use Rattle.record.specs.Pointer.{is_pointer, WritesPointer}
use borrow.Author.Tests.{not-true, not-false, le-leb, lt-leb}
use lib.ListN.{length}
use Prim.Native.Nat.{ℕ, ◌<◌, ◌≤◌}
use native.Mathlib.Omega.{arith}
use mathlib.Core.Bool.{true, false}
use mathlib.Core.Path.{◌≡◌, sym, ◌∙◌}
use Rattle.record.proofs.PointerLaws.{pointer_header}
use Rattle.std.specs.declared.result.Result.TheVariants.{Ok}
use Rattle.record.proofs.ReadsBack.{pointer_ranges, pointer_written_back}
use Rattle.record.proofs.pointer.write_pointer.Goals as goal

pub returns-then-not-is_pointer : goal.returns-then-not-is_pointer
returns-then-not-is_pointer c =
    let a = c.args in
    let e : is_pointer a.pointer ≡ false = sym c.is_pointer.ensures ∙ not-true c.is_pointer.result c.if-not-is_pointer.true-raw in
    record { writes_pointer = (simp e, simp e); reads_back = λ z. let q : ◌≡◌ {A = ℕ} 0 1 = cc in absurd (omega arith) }

pub returns-then-room-lt27 : goal.returns-then-room-lt27
returns-then-room-lt27 c =
    let a = c.args in
    let e : is_pointer a.pointer ≡ true = sym c.is_pointer.ensures ∙ not-false c.is_pointer.result c.if-not-is_pointer.false-raw in
    let l : length a.room.now < 27 = c.if-room-lt27.true in
    record { writes_pointer = (simp (e, lt-leb _ _ l), simp (e, lt-leb _ _ l)); reads_back = λ z. let q : ◌≡◌ {A = ℕ} 0 1 = cc in absurd (omega arith) }

pub put_pointer-requires : goal.put_pointer-requires
put_pointer-requires c =
    let a = c.args in
    let e : is_pointer a.pointer ≡ true = sym c.is_pointer.ensures ∙ not-false c.is_pointer.result c.if-not-is_pointer.false-raw in
    (c.if-room-lt27.false, pointer_header a.pointer e)

pub returns : goal.returns
returns c =
    let a = c.args in
    let e : is_pointer a.pointer ≡ true = sym c.is_pointer.ensures ∙ not-false c.is_pointer.result c.if-not-is_pointer.false-raw in
    let l : 27 ≤ length a.room.now = c.if-room-lt27.false in
    let k = le-leb 27 (length a.room.now) l in
    let x = c.put_pointer.new.room in
    let w : WritesPointer a.room.now a.pointer (Ok 27) x = (simp (e, k), simp (e, k) c.put_pointer.ensures) in
    record { writes_pointer = w; reads_back = pointer_written_back a.room.now x (Ok 27) a.pointer (pointer_ranges a.pointer _ c.well_formed.1.0) w }
