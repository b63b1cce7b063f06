-- `text::put_rest` meets its contract. The invariant: what is left of the number, put into the room as it is, gives the whole. Assumes nothing.
use Rattle.text.proofs.Laws.{rest_step, rest_none}
use Rattle.text.specs.Writing.{mark, put_rest}
use lib.ListN.{set, length-set}
use Prim.Native.Nat.{ℕ, ◌-◌, ◌/◌}
use mathlib.Core.Path.{sym, ap, ◌∙◌}
use mathlib.Core.Bool.{Bool}
use native.Mathlib.Omega.{arith}
use Rattle.text.proofs.put_rest.Goals as goal

pub loop-i-preserved : goal.loop-i-preserved
loop-i-preserved c =
    let l = c.loop-i in (
      simp length-set l.invariant.0,
      ap (λ (b : ℕ). put_rest (set l.room (l.i - 1) b) (l.i - 1) c.is_due-due.result (l.rest / 10)) c.mark_of.ensures
          ∙ ap (λ (b : Bool). put_rest (set l.room (l.i - 1) (mark l.due l.rest)) (l.i - 1) b (l.rest / 10)) c.is_due-due.ensures
          ∙ sym (rest_step l.room l.i l.due l.rest (omega arith)) ∙ l.invariant.1,
    )

pub returns : goal.returns
returns c = let l = c.loop-i in sym (rest_none l.room l.i l.due l.rest (omega arith)) ∙ l.invariant.1
