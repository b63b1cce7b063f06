-- `calendar::closed_number` meets its contract: its sums fit, since a month starts at most 335 days into the year, and the shift is at most the start.
-- Assumes nothing.
use mathlib.Core.Path.{ap, ◌∙◌}
use Prim.Native.Nat.{ℕ, ◌+◌, ◌*◌, ◌/◌, ◌-◌}
use native.Mathlib.Omega.{arith}
use Rattle.calendar.specs.Closed.{start_of, counted, closed_number}
use Rattle.calendar.proofs.Closed.{shift_le, start_le}
use Rattle.calendar.proofs.closed_number.Goals as goal

pub overflow_add-t-2 : goal.overflow_add-t-2
overflow_add-t-2 c = omega (arith, c.start_of-s.ensures, start_le c.args.month (omega arith))

pub overflow_sub-t-2 : goal.overflow_sub-t-2
overflow_sub-t-2 c = omega (arith, c.start_of-s.ensures, c.shift.ensures, shift_le c.args.year c.args.month)

pub overflow_add-t-3 : goal.overflow_add-t-3
overflow_add-t-3 c = omega (arith, c.start_of-s.ensures, start_le c.args.month (omega arith))

pub returns : goal.returns
unfolding closed_number
returns c =
    let a = c.args in
    ap (λ (s : ℕ). counted ((1461 * a.year + 3) / 4 + (s + (a.day - 1) - c.shift.result))) c.start_of-s.ensures
    ∙ ap (λ (h : ℕ). counted ((1461 * a.year + 3) / 4 + (start_of a.month + (a.day - 1) - h))) c.shift.ensures
