-- `judge::stretch::grown` meets its contract: another size, or another place, begins a stretch, and the same goes on from where the last ended. Assumes
-- nothing.
use Rattle.std.proofs.Common.{◌≡◌, ℕ, Bool, true, false, not, eqb, List, sym, refl, arith, eqb-true}
use Rattle.judge.specs.Stretch.{Even}
use Rattle.judge.proofs.StretchLaws.{joined}
use Rattle.judge.proofs.stretch.grown.Goals as goal

-- a test that came out no
same : (b : Bool) → not b ≡ false → b ≡ true
same true e = refl
same false e = sym e

goes_on : {a : List ℕ} {i j : ℕ} (z z' k k' : ℕ) → not (eqb z' z) ≡ false → k' ≡ k → Even a z' i k' → Even a z k j → Even a z i j
goes_on z z' k k' e f m n = joined (rw (eqb-true z' z (same (eqb z' z) e), f) at m) n

pub returns : goal.returns
returns c = record { even = λ a m n. goes_on _ _ _ _ c.if-last-size.false-raw c.if-last-at.false m n; counted = omega arith }
