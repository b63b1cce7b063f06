-- `mphr::faults::is_framed` meets its contract: name, "=", space and line feed, each way out a law of LineLaws. Assumes nothing.
use borrow.Author.Tests.{not-true, not-false}
use mathlib.Core.Path.{sym, ◌∙◌}
use Rattle.mphr.proofs.LineLaws.{frame_name, frame_equals, frame_space, frame_feed}
use Rattle.mphr.proofs.faults.is_framed.Goals as goal

pub returns-then-not-is_named : goal.returns-then-not-is_named
returns-then-not-is_named c = frame_name c.args.s.now c.args.k c.args.at c.args.w c.requires.1 c.requires.2 (sym c.is_named.ensures ∙ not-true c.is_named.result c.if-not-is_named.true-raw)

pub returns-then-s-at-ne61 : goal.returns-then-s-at-ne61
returns-then-s-at-ne61 c = frame_equals c.args.s.now c.args.k c.args.at c.args.w c.requires.1 c.requires.2 (sym c.is_named.ensures ∙ not-false c.is_named.result c.if-not-is_named.false-raw) c.if-s-at-ne61.true

pub returns-then-s-at-ne32 : goal.returns-then-s-at-ne32
returns-then-s-at-ne32 c = frame_space c.args.s.now c.args.k c.args.at c.args.w c.requires.1 c.requires.2 (sym c.is_named.ensures ∙ not-false c.is_named.result c.if-not-is_named.false-raw) c.if-s-at-ne61.false c.if-s-at-ne32.true

pub returns : goal.returns
returns c = frame_feed c.args.s.now c.args.k c.args.at c.args.w c.requires.1 c.requires.2 (sym c.is_named.ensures ∙ not-false c.is_named.result c.if-not-is_named.false-raw) c.if-s-at-ne61.false c.if-s-at-ne32.false
