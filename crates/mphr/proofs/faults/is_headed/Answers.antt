-- `mphr::faults::is_headed` meets its contract: class, group, subclass, then the size that meter reads. Assumes nothing.
use Rattle.mphr.proofs.FirstLaws.{size_is, size_there}
use Rattle.calendar.specs.Said.{said}
use Rattle.meter.specs.Integer.{be_at}
use Rattle.mphr.specs.Table.{headed}
use Prim.Native.Nat.{ℕ}
use lib.Dec.{eqb}
use native.Mathlib.Omega.{arith}
use borrow.Author.Tests.{eq-eqb, ne_eqb}
use mathlib.Core.Path.{◌≡◌, sym, ap, ◌∙◌}
use Rattle.mphr.proofs.faults.is_headed.Goals as goal

pub returns-then-s-ne1 : goal.returns-then-s-ne1
unfolding headed
returns-then-s-ne1 c = simp (ne_eqb _ _ c.if-s-ne1.true)

pub returns-then-s-ne0 : goal.returns-then-s-ne0
unfolding headed
returns-then-s-ne0 c = simp (eq-eqb _ _ c.if-s-ne1.false, ne_eqb _ _ c.if-s-ne0.true)

pub returns-then-s-ne0-2 : goal.returns-then-s-ne0-2
unfolding headed
returns-then-s-ne0-2 c = simp (eq-eqb _ _ c.if-s-ne1.false, eq-eqb _ _ c.if-s-ne0.false, ne_eqb _ _ c.if-s-ne0-2.true)

pub returns-in-Ok : goal.returns-in-Ok
unfolding headed
returns-in-Ok c =
    let a = c.args.s.now in
    let e : c.in-Ok.size ≡ be_at a 4 4 = size_is a c.in-Ok.size (omega arith) (sym (ap said c.in-Ok.is) ∙ c.read_unsigned.ensures) in
    simp (eq-eqb _ _ c.if-s-ne1.false, eq-eqb _ _ c.if-s-ne0.false, eq-eqb _ _ c.if-s-ne0-2.false) (ap (λ (n : ℕ). eqb n 3307) e)

pub returns-in-Err : goal.returns-in-Err
returns-in-Err c =
    let a = c.args.s.now in
    absurd (size_there a c.in-Err.field-0 (omega arith) (sym (ap said c.in-Err.is) ∙ c.read_unsigned.ensures))
