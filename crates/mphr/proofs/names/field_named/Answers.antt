-- `mphr::names::field_named` meets its contract: the name is at its place or nowhere (QuickLaws). Assumes nothing.
use mathlib.Core.Path.{sym, ◌∙◌}
use Rattle.mphr.proofs.QuickLaws.{hit, miss, unlike}
use Rattle.mphr.proofs.names.field_named.Goals as goal

pub returns-then-matches : goal.returns-then-matches
returns-then-matches c =
    hit c.args.name.now c.likely-k.result c.likely-k.ensures c.if-k-lt72.true (sym c.matches.ensures ∙ c.if-matches.true)

pub returns-else-matches : goal.returns-else-matches
returns-else-matches c =
    unlike c.args.name.now c.likely-k.result c.likely-k.ensures (sym c.matches.ensures ∙ c.if-matches.false)

pub returns-else-k-lt72 : goal.returns-else-k-lt72
returns-else-k-lt72 c = miss c.args.name.now c.likely-k.result c.likely-k.ensures c.if-k-lt72.false
