-- `uth::blocks::block_at` meets its contract: a block past the last is none (FindLaws). Assumes nothing.
use Rattle.std.proofs.Common.{sym, ap, ◌∙◌}
use Rattle.calendar.specs.Said.{said}
use Rattle.uth.proofs.FindLaws.{not_found}
use Rattle.uth.proofs.blocks.block_at.Goals as goal

pub returns-then-n-k : goal.returns-then-n-k
returns-then-n-k c = sym (not_found c.args.bytes.now c.in_ok-n.n c.args.k (sym c.judge.ensures ∙ ap said c.in_ok-n.was) c.if-n-k.true)
