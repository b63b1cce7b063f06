-- `watch::under_way::fill` meets its contract: twenty bytes in one run and the rest after them are what would be copied one by one. Assumes nothing.
use Prim.Native.Nat.{◌+◌, ◌≤◌}
use native.Mathlib.Omega.{arith}
use mathlib.Core.Path.{◌≡◌}
use lib.ListN.{length}
use borrow.Author.Tests.{not-false}
use Rattle.watch.proofs.Leaves.{filled_twenty, filled_more}
use Rattle.watch.proofs.under_way.fill.Goals as goal
use Rattle.watch.proofs.under_way.fill.Goals.{Else-not-is_ahead}

good : (c : Else-not-is_ahead) → (c.args.held ≡ 0) × (c.args.from + 20 ≤ length c.args.part.now)
good c = c.is_ahead.ensures.good (not-false c.is_ahead.result c.if-not-is_ahead.false-raw)

pub copy_twenty-requires : goal.copy_twenty-requires
copy_twenty-requires c = (good (goal.at.copy_twenty-requires c).Else-not-is_ahead).1

pub returns-then-under-ne3 : goal.returns-then-under-ne3
returns-then-under-ne3 c = filled_twenty (good (goal.at.returns-then-under-ne3 c).Else-not-is_ahead).0 c.copy_twenty.ensures c.if-under-ne3.true

pub overflow_add-from : goal.overflow_add-from
overflow_add-from c = record { fits = omega (arith, good (goal.at.overflow_add-from c).Else-not-is_ahead) }

pub returns : goal.returns
returns c = filled_more (good (goal.at.returns c).Else-not-is_ahead).0 c.copy_twenty.ensures c.fill_slowly-2.ensures
