-- `judge::stretch::longer` meets its contract: either way out is one of the two. Assumes nothing.
use Rattle.std.proofs.Common.{refl, inl, inr}
use Rattle.judge.proofs.stretch.longer.Goals as goal

pub returns-then-one-other : goal.returns-then-one-other
returns-then-one-other c = inr refl

pub returns : goal.returns
returns c = inl refl
