-- `meter::scaled::holds_scaled` meets its contract: one byte, and then the others. Assumes nothing.
use lib.Dec.{leb}
use Prim.Native.Nat.{ℕ, ◌+◌, ◌<◌}
use borrow.Author.Tests.{lt-leb}
use native.Mathlib.Omega.{arith}
use mathlib.Core.Path.{◌≡◌, sym, ap, ◌∙◌}
use Rattle.meter.proofs.scaled.holds_scaled.Goals as goal

pub returns-then-len-at : goal.returns-then-len-at
returns-then-len-at c =
    let a = c.args in
    let h : a.len < a.at + (1 + a.n) = omega arith in
    sym (lt-leb (a.at + (1 + a.n)) a.len h)

pub returns : goal.returns
returns c =
    let a = c.args in
    let e : a.at + 1 + a.n ≡ a.at + (1 + a.n) = omega arith in
    c.holds.ensures ∙ ap (λ (k : ℕ). leb k a.len) e
