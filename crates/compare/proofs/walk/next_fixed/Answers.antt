-- `compare::walk::next_fixed` meets its contract: what is skipped has no SPHR and no auxiliary record. Assumes nothing.
use Prim.Native.Nat.{ℕ, ◌+◌}
use native.Mathlib.Omega.{arith}
use mathlib.Core.Path.{◌≡◌, sym, subst, ◌∙◌}
use Rattle.record.proofs.HeaderLaws.{size_there_lem}
use Rattle.demands.specs.Product.{size}
use Rattle.compare.proofs.StepLaws.{Here, here, Skipping, skip_first, skip_on}
use Rattle.compare.proofs.walk.next_fixed.Goals as goal
use Rattle.compare.proofs.walk.next_fixed.Goals.{In-loop-at, After-size_at-at}

pub loop-at-init : goal.loop-at-init
loop-at-init c = skip_first c.requires

one : (c : In-loop-at) → Here c.args.original.now c.loop-at.at c.loop-at.invariant.rest
one c = here c.loop-at.invariant.walk c.loop-at-test.true

size_is : (c : After-size_at-at) → c.size_at-at.result ≡ size c.args.original.now c.loop-at.at
size_is c =
    c.size_at-at.ensures ∙ size_there_lem c.args.original.now c.loop-at.at (omega (arith, (one (goal.at.After-size_at-at c).In-loop-at).stands.header))

pub overflow_add-at : goal.overflow_add-at
overflow_add-at c = omega (arith, size_is c, (one (goal.at.overflow_add-at c).In-loop-at).stands.most, c.loop-at.invariant.small)

pub loop-at-smaller : goal.loop-at-smaller
loop-at-smaller c = omega (arith, size_is c, (one (goal.at.loop-at-smaller c).In-loop-at).stands.most, (one (goal.at.loop-at-smaller c).In-loop-at).least, c.loop-at-test.true)

pub loop-at-preserved : goal.loop-at-preserved
loop-at-preserved c =
    subst (λ (n : ℕ). Skipping c.args.original.now c.args.from (c.loop-at.at + n)) (sym (size_is c)) (skip_on c.loop-at.invariant c.loop-at-test.true (sym c.is_fixed.ensures ∙ c.if-is_fixed.false))
