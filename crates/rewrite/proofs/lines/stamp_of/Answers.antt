-- `rewrite::lines::stamp_of` meets its contract: the stamp is the long text without the digits of its millisecond. Assumes nothing.
use mathlib.Core.Path.{◌∙◌}
use Rattle.rewrite.proofs.LineLaws.{stamp_is, text_wrote}
use Rattle.rewrite.proofs.lines.stamp_of.Goals as goal

pub returns : goal.returns
returns c =
    c.copy.ensures ∙ stamp_is c.args.time c.time_text.new.room (c.time_text.ensures.writes_time_text.1 ∙ text_wrote c.args.time c.requires)
