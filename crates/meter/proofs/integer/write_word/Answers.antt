-- `meter::integer::write_word` meets its contract: 21, then 18, then the bytes. Assumes nothing.
use Prim.Native.Nat.{◌<◌, ◌≤◌}
use lib.ListN.{length}
use native.Mathlib.Omega.{arith}
use borrow.Author.Tests.{not-true, not-false, le-leb, lt-leb}
use mathlib.Core.Bool.{true, false}
use mathlib.Core.Path.{◌≡◌}
use Rattle.meter.proofs.integer.write_word.Goals as goal

pub returns-then-not-right : goal.returns-then-not-right
returns-then-not-right c =
    let e : c.args.right ≡ false = not-true c.args.right c.if-not-right.true-raw in
    (simp e, simp e)

pub returns-then-room-n : goal.returns-then-room-n
returns-then-room-n c =
    let a = c.args in
    let e : a.right ≡ true = not-false a.right c.if-not-right.false-raw in
    let h : length a.room.now < a.n = omega arith in
    (simp (e, lt-leb _ _ h), simp (e, lt-leb _ _ h))

pub returns : goal.returns
returns c =
    let a = c.args in
    let e : a.right ≡ true = not-false a.right c.if-not-right.false-raw in
    let h : a.n ≤ length a.room.now = omega arith in
    (simp (e, le-leb _ _ h), simp (e, le-leb _ _ h) c.put_be.ensures)
