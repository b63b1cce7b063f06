-- `compare::walk::take_earliest` meets its contract: none of the records that were passed is the one that is looked for. Assumes nothing.
use Prim.Native.Nat.{ℕ, ◌+◌}
use native.Mathlib.Omega.{arith}
use mathlib.Core.Path.{◌≡◌, sym, subst, ◌∙◌}
use Rattle.record.proofs.HeaderLaws.{size_there_lem}
use Rattle.demands.specs.Product.{size}
use Rattle.compare.proofs.StepLaws.{Searching, search_first, search_stands, search_least, search_on, search_found, search_end}
use Rattle.compare.proofs.walk.take_earliest.Goals as goal
use Rattle.compare.proofs.walk.take_earliest.Goals.{After-size_at-next}

pub loop-next-init : goal.loop-next-init
loop-next-init c = search_first c.requires

pub is_record-requires : goal.is_record-requires
is_record-requires c = (search_stands c.loop-next.invariant c.loop-next-test.true, c.loop-next.invariant.seeking.come)

pub returns-then-is_record : goal.returns-then-is_record
returns-then-is_record c = search_found c.loop-next.invariant c.loop-next-test.true (c.is_record.ensures.right c.if-is_record.true)

size_is : (c : After-size_at-next) → c.size_at-next.result ≡ size c.args.original.now c.loop-next.next
size_is c =
    c.size_at-next.ensures ∙ size_there_lem c.args.original.now c.loop-next.next (omega (arith, (search_stands c.loop-next.invariant c.loop-next-test.true).header))

pub overflow_add-next : goal.overflow_add-next
overflow_add-next c =
    let v = c.loop-next.invariant in
    omega (arith, size_is c, v.seeking.fixing.small, (search_stands v c.loop-next-test.true).most)

pub loop-next-smaller : goal.loop-next-smaller
loop-next-smaller c =
    let v = c.loop-next.invariant in
    omega (arith, size_is c, c.loop-next-test.true, search_least v c.loop-next-test.true, (search_stands v c.loop-next-test.true).most)

pub loop-next-preserved : goal.loop-next-preserved
loop-next-preserved c =
    let a = c.args in
    subst (λ (n : ℕ). Searching a.original.now a.from a.cut.now a.at a.size (c.loop-next.next + n)) (sym (size_is c)) (search_on c.loop-next.invariant c.loop-next-test.true (c.is_record.ensures.wrong c.if-is_record.false))

pub returns : goal.returns
returns c = search_end c.loop-next.invariant c.loop-next-test.false
