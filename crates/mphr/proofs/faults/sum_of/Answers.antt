-- `mphr::faults::sum_of` meets its contract: before the total j the loop has the sum of those before it, where their fields are numbers. Assumes nothing.
use native.Mathlib.Omega.{arith}
use mathlib.Core.Path.{◌≡◌, refl, ap, ◌∙◌}
use Prim.Native.Nat.{suc, ◌+◌, ◌-◌}
use Rattle.mphr.specs.Table.{sum}
use Rattle.mphr.proofs.faults.sum_of.Goals as goal

pub loop-j-init : goal.loop-j-init
unfolding sum
loop-j-init c = (λ _. refl, omega arith)

pub loop-j-preserved : goal.loop-j-preserved
unfolding sum
loop-j-preserved c =
    let j = c.loop-j.j in
    let e : j + 1 - 1 ≡ suc (j - 1) = omega arith in
    let f : j - 1 + 1 ≡ j = omega arith in
    (λ y. rw (e, f) (omega (arith, c.loop-j.invariant.0 y, c.total_of-v.ensures.0 y)), omega arith)

pub returns : goal.returns
returns c = λ y. let e : c.loop-j.j - 1 ≡ 8 = omega arith in c.loop-j.invariant.0 y ∙ ap (sum c.args.s.now) e
