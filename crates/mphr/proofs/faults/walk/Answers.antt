-- `mphr::faults::walk` meets its contract. The invariant: where each fault is of a later stage than the first line that is judged, it is of a
-- later stage than the line; and the copy of the table is the padded names, by one computed test. Assumes nothing.
use native.Mathlib.Omega.{arith}
use Prim.Native.Nat.{ℕ}
use mathlib.Core.Path.{◌≡◌, refl, subst}
use Rattle.mphr.specs.Layout.{fields, rows, names, widths, kinds}
use Rattle.mphr.specs.Turning.{TurnedIs}
use Rattle.mphr.specs.declared.faults.Line.{Line}
use Rattle.std.specs.declared.result.Result.{Result}
use Rattle.calendar.specs.declared.Refusal.{Refusal}
use Rattle.std.specs.declared.ops.ControlFlow.{ControlFlow}
use Rattle.std.specs.declared.ops.ControlFlow.TheVariants.{Break, Continue}
use Rattle.mphr.proofs.TurnLaws.{gone_at, whole}
use Rattle.mphr.proofs.faults.walk.Goals as goal
use Rattle.mphr.proofs.faults.walk.Goals.{After-turn}

told : (c : After-turn) (r : ControlFlow (Result Line Refusal) ℕ) → c.turn.result ≡ r → TurnedIs c.args.s.now c.loop-k.k r
told c r e = subst (TurnedIs c.args.s.now c.loop-k.k) e c.turn.ensures

pub loop-k-init : goal.loop-k-init
unfolding fields rows names widths kinds
loop-k-init c = let y = c.requires in (omega arith, y.at_is, y.come, λ p. p, refl, refl, refl)

pub turn-requires : goal.turn-requires
turn-requires c =
    let i = c.loop-k.invariant in
    (record { line = c.loop-k-test.true; at_is = i.1; come = i.2 }, i.4, i.5, i.6)

pub returns-in-Break : goal.returns-in-Break
returns-in-Break c = λ p. told (goal.at.returns-in-Break c).After-turn (Break c.in-Break.r) c.in-Break.is (c.loop-k.invariant.3 p)

pub loop-k-preserved : goal.loop-k-preserved
loop-k-preserved c =
    let g = gone_at (told (goal.at.loop-k-preserved c).After-turn (Continue c.in-Continue.to) c.in-Continue.is) in
    let i = c.loop-k.invariant in
    (omega arith, g.0, g.1, λ p. g.2 (i.3 p), i.4, i.5, i.6)

pub returns : goal.returns
returns c = let i = c.loop-k.invariant in λ p. whole c.loop-k-test.false (omega (arith, i.1, i.2)) (i.3 p)
