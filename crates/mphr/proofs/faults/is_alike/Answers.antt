-- `mphr::faults::is_alike` meets its contract: eight bytes as one number, then two. Assumes nothing.
use Rattle.mphr.proofs.AlikeLaws.{eight, eight_no, last}
use Prim.Native.Nat.{ℕ, ◌<◌}
use mathlib.Core.Path.{◌≡◌, sym, ◌∙◌}
use lib.ListN.{get_or}
use Rattle.mphr.proofs.faults.is_alike.Goals as goal
use Rattle.mphr.proofs.faults.is_alike.Goals.{After-eight-2, Else-eight}

low : (c : After-eight-2) (k : ℕ) → get_or c.args.s.now k 0 < 256
low c k = (c.shared_slice_known-1.given k).fits

low-t : (c : After-eight-2) (k : ℕ) → get_or c.args.t.now k 0 < 256
low-t c k = (c.shared_slice_known-2-1.given k).fits

-- the two numbers as the code has them
same : (c : Else-eight) → eight c.args.s.now c.args.i ≡ eight c.args.t.now c.args.j
same c = sym c.eight.ensures ∙ c.if-eight.false ∙ c.eight-2.ensures

pub returns-then-eight : goal.returns-then-eight
returns-then-eight c = eight_no c.args.s.now c.args.t.now c.args.i c.args.j (low (goal.at.returns-then-eight c).After-eight-2) (low-t (goal.at.returns-then-eight c).After-eight-2) (λ q. c.if-eight.true (c.eight.ensures ∙ q ∙ sym c.eight-2.ensures))

pub returns : goal.returns
returns c =
    rw (c.two.ensures, c.two-2.ensures) (last c.args.s.now c.args.t.now c.args.i c.args.j (low (goal.at.returns c).After-eight-2) (low-t (goal.at.returns c).After-eight-2) (same (goal.at.returns c).Else-eight))
