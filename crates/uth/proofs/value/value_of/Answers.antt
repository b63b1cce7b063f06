-- `uth::value::value_of` meets its contract: a float is made of its bits only where it is finite. Assumes nothing.
use mathlib.Core.Path.{sym, ◌∙◌}
use Rattle.uth.proofs.ValueLaws.{no_nan, missing, there}
use Rattle.uth.proofs.value.value_of.Goals as goal

pub float_from_bits-result : goal.float_from_bits-result
float_from_bits-result c = no_nan c.args.bits (sym c.is_finite.ensures ∙ c.if-is_finite.true)

pub returns-then-is_finite : goal.returns-then-is_finite
returns-then-is_finite c = sym (there c.args.bits (sym c.is_finite.ensures ∙ c.if-is_finite.true))

pub returns : goal.returns
returns c = sym (missing c.args.bits (sym c.is_finite.ensures ∙ c.if-is_finite.false))
