-- `meter::scaled::write_scaled` meets its contract: an integer that can be told has at most 8 bytes (IntegerLaws). Assumes nothing.
use Rattle.meter.proofs.IntegerLaws.{wide_of}
use Rattle.std.proofs.Common.{sym, ◌∙◌}
use Rattle.meter.proofs.scaled.write_scaled.Goals as goal

pub write_parts-requires : goal.write_parts-requires
write_parts-requires c = (wide_of _ (sym c.is_width.ensures ∙ c.if-not-is_width.false)).small

pub write_parts-requires-in-Some : goal.write_parts-requires-in-Some
write_parts-requires-in-Some c = (wide_of _ (sym c.is_width.ensures ∙ c.if-not-is_width.false)).small
