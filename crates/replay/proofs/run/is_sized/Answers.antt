-- `replay::run::is_sized` meets its contract: what is shorter than the two counts and the lengths is shorter than the size. Assumes nothing.
use mathlib.Core.Path.{◌≡◌, sym, ap, ◌∙◌}
use Prim.Native.Nat.{ℕ, ◌+◌, ◌*◌}
use native.Mathlib.Omega.{arith}
use borrow.Author.Tests.{ne_eqb}
use lib.Dec.{eqb}
use lib.ListN.{length}
use Rattle.replay.specs.Layout.{number_at, size_of}
use Rattle.replay.proofs.run.is_sized.Goals as goal

pub returns-then-len-lt8 : goal.returns-then-len-lt8
returns-then-len-lt8 c =
    let r = c.args.recorded.now in
    sym (ne_eqb (length r) (size_of r) (λ e. let t = c.if-len-lt8.true in omega arith))

pub returns-then-len-n : goal.returns-then-len-n
returns-then-len-n c =
    let r = c.args.recorded.now in
    let n = c.number_at-n.ensures.0 in
    sym (ne_eqb (length r) (size_of r) (λ e. let t = c.if-len-n.true in omega arith))

pub returns : goal.returns
returns c =
    let r = c.args.recorded.now in
    let n = c.number_at-n.ensures.0 in
    let m = c.number_at.ensures.0 ∙ ap (λ (k : ℕ). number_at r (1 + k)) n in
    let e : 8 + 4 * c.number_at-n.result + 12 * c.number_at.result ≡ size_of r = omega (arith, n, m) in
    ap (eqb (length r)) e
