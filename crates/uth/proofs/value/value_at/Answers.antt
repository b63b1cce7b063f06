-- `uth::value::value_at` meets its contract: the value of the bits there. Assumes nothing.
use mathlib.Core.Path.{ap, ◌∙◌}
use Rattle.uth.specs.Value.{value_of}
use Rattle.uth.proofs.value.value_at.Goals as goal

pub returns : goal.returns
returns c = c.value_of.ensures ∙ ap value_of c.word.ensures.0
