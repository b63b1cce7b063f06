-- `meter::general::put_moment` meets its contract: seven calls of put_digits, each of which keeps the room's length, and the Z.
-- Assumes nothing.
use native.Mathlib.Omega.{arith}
use mathlib.Core.Path.{◌≡◌, ap, ◌∙◌}
use lib.ListN.{length, length-set}
use Rattle.meter.proofs.GeneralWrite.{digits_length}
use Rattle.meter.proofs.GeneralCode.{moment_put}
use Rattle.meter.proofs.general.put_moment.Goals as goal
use Rattle.meter.proofs.general.put_moment.Goals.{After-put_digits, After-put_digits-2, After-put_digits-3, After-put_digits-4, After-put_digits-5, After-put_digits-6, After-put_digits-7}

-- the room after each call is as long as before
size-1 : (c : After-put_digits) → length c.put_digits.new.room ≡ length c.args.room.now
size-1 c = ap length c.put_digits.ensures ∙ simp digits_length

size-2 : (c : After-put_digits-2) → length c.put_digits-2.new.room ≡ length c.args.room.now
size-2 c = ap length c.put_digits-2.ensures ∙ simp digits_length (size-1 (goal.at.After-put_digits-2 c).After-put_digits)

size-3 : (c : After-put_digits-3) → length c.put_digits-3.new.room ≡ length c.args.room.now
size-3 c = ap length c.put_digits-3.ensures ∙ simp digits_length (size-2 (goal.at.After-put_digits-3 c).After-put_digits-2)

size-4 : (c : After-put_digits-4) → length c.put_digits-4.new.room ≡ length c.args.room.now
size-4 c = ap length c.put_digits-4.ensures ∙ simp digits_length (size-3 (goal.at.After-put_digits-4 c).After-put_digits-3)

size-5 : (c : After-put_digits-5) → length c.put_digits-5.new.room ≡ length c.args.room.now
size-5 c = ap length c.put_digits-5.ensures ∙ simp digits_length (size-4 (goal.at.After-put_digits-5 c).After-put_digits-4)

size-6 : (c : After-put_digits-6) → length c.put_digits-6.new.room ≡ length c.args.room.now
size-6 c = ap length c.put_digits-6.ensures ∙ simp digits_length (size-5 (goal.at.After-put_digits-6 c).After-put_digits-5)

size-7 : (c : After-put_digits-7) → length c.put_digits-7.new.room ≡ length c.args.room.now
size-7 c = ap length c.put_digits-7.ensures ∙ simp digits_length (size-6 (goal.at.After-put_digits-7 c).After-put_digits-6)

pub put_digits-requires-5 : goal.put_digits-requires-5
put_digits-requires-5 c = omega (arith, size-4 (goal.at.put_digits-requires-5 c).After-put_digits-4, c.requires)

pub put_digits-requires-6 : goal.put_digits-requires-6
put_digits-requires-6 c = omega (arith, size-5 (goal.at.put_digits-requires-6 c).After-put_digits-5, c.requires)

pub overflow_sub-n : goal.overflow_sub-n
overflow_sub-n c = omega (arith, c.requires)

pub put_digits-requires-7 : goal.put_digits-requires-7
put_digits-requires-7 c = omega (arith, size-6 (goal.at.put_digits-requires-7 c).After-put_digits-6, c.requires)

pub bounds-room-n : goal.bounds-room-n
bounds-room-n c = omega (arith, size-7 (goal.at.bounds-room-n c).After-put_digits-7, c.requires)

pub shape_of-room : goal.shape_of-room
shape_of-room c = simp length-set (size-7 (goal.at.shape_of-room c).After-put_digits-7)

pub returns : goal.returns
returns c =
    let a = c.args in
    moment_put a.n a.room.now a.t
    c.put_digits.new.room c.put_digits-2.new.room c.put_digits-3.new.room c.put_digits-4.new.room c.put_digits-5.new.room c.put_digits-6.new.room c.put_digits-7.new.room
    c.put_digits.ensures c.put_digits-2.ensures c.put_digits-3.ensures c.put_digits-4.ensures c.put_digits-5.ensures c.put_digits-6.ensures c.put_digits-7.ensures
