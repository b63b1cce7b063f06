-- `mphr::faults::total_of` meets its contract: the total's field, whose count has at most six digits. Assumes nothing.
use Prim.Native.Nat.{◌+◌, ◌*◌}
use Rattle.text.proofs.Exact.{count_is}
use Rattle.mphr.proofs.LineLaws.{total_is, count_most}
use native.Mathlib.Omega.{arith}
use mathlib.Core.Path.{sym, ◌∙◌}
use Rattle.mphr.proofs.faults.total_of.Goals as goal

pub returns : goal.returns
returns c =
    let a = c.args.s.now in
    let i = 2675 + 39 * c.args.j in
    (λ y. c.count_at.ensures ∙ count_is a i 6 (y.counts c.args.j (omega arith)) (omega arith) (omega (arith, y.come)) ∙ sym (total_is a c.args.j (omega arith)), omega (arith, c.count_at.ensures, count_most a i))
