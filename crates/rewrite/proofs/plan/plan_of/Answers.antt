-- `rewrite::plan::plan_of` meets its contract: each way out is one of the plans of AssembleLaws. Assumes nothing.
use Prim.Native.Nat.{◌≤◌}
use native.Mathlib.Omega.{arith}
use mathlib.Core.Path.{refl}
use mathlib.Core.List.{[]}
use Rattle.rewrite.proofs.AssembleLaws.{filled_most, plan_big, plan_many, plan_long, plan_fits}
use Rattle.rewrite.proofs.plan.plan_of.Goals as goal
use Rattle.rewrite.proofs.plan.plan_of.Goals.{After-kinds_in-kinds, then-size-gt2147483647-via-then-size-gt2147483647, then-size-gt2147483647-via-else-size-gt2147483647+then-tally-gt999999}

kinds-most : (c : After-kinds_in-kinds) → c.kinds_in-kinds.result ≤ 20480
kinds-most c = omega (arith, c.kinds_in-kinds.ensures, filled_most c.args.table.now 20480)

pub add_pointers-requires : goal.add_pointers-requires
add_pointers-requires c = let p = c.requires in (p.nine, p.records_low, kinds-most (goal.at.add_pointers-requires c).After-kinds_in-kinds)

pub overflow_mul-base : goal.overflow_mul-base
overflow_mul-base c = omega (arith, kinds-most (goal.at.overflow_mul-base c).After-kinds_in-kinds)

pub overflow_add-base-2 : goal.overflow_add-base-2
overflow_add-base-2 c = omega (arith, kinds-most (goal.at.overflow_add-base-2 c).After-kinds_in-kinds, c.requires.front_low)

pub overflow_add-size : goal.overflow_add-size
overflow_add-size c = omega (arith, kinds-most (goal.at.overflow_add-size c).After-kinds_in-kinds, c.requires.front_low, c.requires.kept_low)

pub returns-then-size-gt2147483647 : goal.returns-then-size-gt2147483647
returns-then-size-gt2147483647 c = elim c.then-size-gt2147483647.branch [
  | then-size-gt2147483647-via-then-size-gt2147483647 w ↦ λ m fs ks g. plan_big g m c.kinds_in-kinds.result c.kinds_in-kinds.ensures _ _ [] refl w.if-size-gt2147483647.true
  | then-size-gt2147483647-via-else-size-gt2147483647+then-tally-gt999999 w ↦ λ m fs ks g. plan_many g m c.kinds_in-kinds.result c.kinds_in-kinds.ensures _ _ c.add_pointers.ensures w.if-tally-gt999999.true
]

pub returns-then-room-size : goal.returns-then-room-size
returns-then-room-size c =
    λ m fs ks g. plan_long g m c.kinds_in-kinds.result c.kinds_in-kinds.ensures _ _ _ refl c.add_pointers.ensures c.if-size-gt2147483647.false c.if-tally-gt999999.false c.if-room-size.true

pub returns : goal.returns
returns c =
    λ m fs ks g. plan_fits g m c.kinds_in-kinds.result c.kinds_in-kinds.ensures _ _ _ _ refl refl c.add_pointers.ensures c.if-size-gt2147483647.false c.if-tally-gt999999.false c.if-room-size.false
