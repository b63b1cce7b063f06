-- `listing::put_column` meets its contract: the digits that are left, put into the room as it is, give the whole. Assumes nothing.
use Prim.Native.Nat.{◌≤◌}
use native.Mathlib.Omega.{arith}
use Rattle.listing.proofs.ColumnLaws.{column_length, more_left, one_left, writing_next, writing_last}
use Rattle.listing.proofs.put_column.Goals as goal
use Rattle.listing.proofs.put_column.Goals.{After-loop-i}

pub loop-i-preserved : goal.loop-i-preserved
loop-i-preserved c = let w = c.loop-i.invariant in writing_next w (more_left w c.loop-i-test.true)

last : (c : After-loop-i) → c.loop-i.rest ≤ 9
last c = one_left c.loop-i.invariant c.loop-i-test.false

pub overflow_cast-room-2 : goal.overflow_cast-room-2
overflow_cast-room-2 c = omega (arith, last (goal.at.overflow_cast-room-2 c).After-loop-i)

pub overflow_add-room-2 : goal.overflow_add-room-2
overflow_add-room-2 c = omega (arith, last (goal.at.overflow_add-room-2 c).After-loop-i)

pub returns : goal.returns
returns c =
    let a = c.args in
    record {
      next = omega (arith, c.places.ensures.0, column_length a.v a.end);
      put = writing_last a.room.now a.at a.v a.end _ c.loop-i.invariant (omega (arith, c.places.ensures.0)) (last (goal.at.returns c).After-loop-i);
    }
