-- `record::header::write_header` meets its contract: 21, then 18, then the bytes, which read back (ReadsBack). Assumes nothing.
use Rattle.record.specs.Header.{is_header, WritesHeader}
use borrow.Author.Tests.{not-true, not-false, le-leb, lt-leb}
use lib.ListN.{length}
use Prim.Native.Nat.{ℕ, ◌<◌, ◌≤◌}
use native.Mathlib.Omega.{arith}
use mathlib.Core.Bool.{true, false}
use mathlib.Core.Path.{◌≡◌, sym, ◌∙◌}
use Rattle.std.specs.declared.result.Result.TheVariants.{Ok}
use Rattle.record.proofs.ReadsBack.{header_ranges, header_written_back}
use Rattle.record.proofs.header.write_header.Goals as goal

pub returns-then-not-is_header : goal.returns-then-not-is_header
returns-then-not-is_header c =
    let a = c.args in
    let e : is_header a.header ≡ false = sym c.is_header.ensures ∙ not-true c.is_header.result c.if-not-is_header.true-raw in
    record { writes_header = (simp e, simp e); reads_back = λ z. let q : ◌≡◌ {A = ℕ} 0 1 = cc in absurd (omega arith) }

pub returns-then-room-lt20 : goal.returns-then-room-lt20
returns-then-room-lt20 c =
    let a = c.args in
    let e : is_header a.header ≡ true = sym c.is_header.ensures ∙ not-false c.is_header.result c.if-not-is_header.false-raw in
    let l : length a.room.now < 20 = c.if-room-lt20.true in
    record { writes_header = (simp (e, lt-leb _ _ l), simp (e, lt-leb _ _ l)); reads_back = λ z. let q : ◌≡◌ {A = ℕ} 0 1 = cc in absurd (omega arith) }

pub put_header-requires : goal.put_header-requires
put_header-requires c =
    let a = c.args in
    let e : is_header a.header ≡ true = sym c.is_header.ensures ∙ not-false c.is_header.result c.if-not-is_header.false-raw in
    (c.if-room-lt20.false, e)

pub returns : goal.returns
returns c =
    let a = c.args in
    let e : is_header a.header ≡ true = sym c.is_header.ensures ∙ not-false c.is_header.result c.if-not-is_header.false-raw in
    let l : 20 ≤ length a.room.now = c.if-room-lt20.false in
    let k = le-leb 20 (length a.room.now) l in
    let x = c.put_header.new.room in
    let w : WritesHeader a.room.now a.header (Ok 20) x = (simp (e, k), simp (e, k) c.put_header.ensures) in
    record { writes_header = w; reads_back = header_written_back a.room.now x (Ok 20) a.header (header_ranges a.header _ c.well_formed.1.0) w }
