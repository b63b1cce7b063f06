-- `meter::scaled::write_parts` meets its contract: 21, then 18, then the scale and the integer. Assumes nothing.
use Rattle.meter.specs.Integer.{stored}
use Prim.Native.Nat.{◌+◌, ◌<◌, ◌≤◌}
use lib.ListN.{length}
use mathlib.Core.List.{List}
use Prim.Native.Nat.{ℕ}
use native.Mathlib.Omega.{arith}
use borrow.Author.Tests.{not-true, not-false, le-leb, lt-leb}
use mathlib.Core.Bool.{true, false}
use mathlib.Core.Path.{◌≡◌, ap, ◌∙◌}
use Rattle.meter.proofs.scaled.write_parts.Goals as goal

pub returns-then-not-right : goal.returns-then-not-right
returns-then-not-right c =
    let e : c.args.right ≡ false = not-true c.args.right c.if-not-right.true-raw in
    (simp e, simp e)

pub returns-then-room-n : goal.returns-then-room-n
returns-then-room-n c =
    let a = c.args in
    let e : a.right ≡ true = not-false a.right c.if-not-right.false-raw in
    let h : length a.room.now < 1 + a.n = omega arith in
    (simp (e, lt-leb _ _ h), simp (e, lt-leb _ _ h))

pub returns : goal.returns
returns c =
    let a = c.args in
    let e : a.right ≡ true = not-false a.right c.if-not-right.false-raw in
    let h : 1 + a.n ≤ length a.room.now = omega arith in
    (simp (e, le-leb _ _ h), simp (e, le-leb _ _ h) (c.put_be-2.ensures ∙ ap (λ (l : List ℕ). stored l 1 a.n a.word) c.put_be.ensures))
