-- `text::is_time` meets its contract: the width, then what read_general says. Assumes nothing.
use Rattle.text.proofs.Laws.{time_wide, time_read, time_refused}
use Rattle.calendar.specs.Said.{said}
use Rattle.meter.specs.General.{digits_of}
use Prim.Native.Nat.{◌+◌}
use mathlib.Core.Bool.{Bool}
use mathlib.Core.Path.{◌≡◌, sym, ap, ◌∙◌}
use Rattle.text.proofs.is_time.Goals as goal
use Rattle.text.proofs.is_time.Goals.{Joined-long, then-long, else-long}

due-is : (c : Joined-long) → c.if-long.due ≡ digits_of c.args.long + 1
due-is c = elim c.if-long.branch [ then-long w ↦ w.due-is ∙ sym (ap (λ (b : Bool). digits_of b + 1) w.if-long.true) | else-long w ↦ w.due-is ∙ sym (ap (λ (b : Bool). digits_of b + 1) w.if-long.false) ]

pub returns-then-width-due : goal.returns-then-width-due
returns-then-width-due c = let a = c.args in time_wide a.long a.bytes.now a.at a.width c.if-long.due (due-is (goal.at.returns-then-width-due c).Joined-long) c.if-width-due.true

pub returns-in-Ok : goal.returns-in-Ok
returns-in-Ok c =
    let a = c.args in
    time_read a.long a.bytes.now a.at a.width c.if-long.due (due-is (goal.at.returns-in-Ok c).Joined-long) c.if-width-due.false c.requires c.in-Ok.field-0 (sym (ap said c.in-Ok.is) ∙ c.read_general.ensures)

pub returns-in-Err : goal.returns-in-Err
returns-in-Err c =
    let a = c.args in
    time_refused a.long a.bytes.now a.at a.width c.if-long.due (due-is (goal.at.returns-in-Err c).Joined-long) c.if-width-due.false c.requires c.in-Err.field-0 (sym (ap said c.in-Err.is) ∙ c.read_general.ensures)
