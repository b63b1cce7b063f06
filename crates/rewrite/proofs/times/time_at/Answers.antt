-- `rewrite::times::time_at` meets its contract: the bits say it. Assumes nothing.
use Rattle.rewrite.proofs.TimesLaws.{time_none, time_some}
use Rattle.rewrite.proofs.times.time_at.Goals as goal

pub returns-then-bits-eq281474976710655 : goal.returns-then-bits-eq281474976710655
returns-then-bits-eq281474976710655 c = time_none c.args.s.now c.args.at c.bits_at-bits.result c.bits_at-bits.ensures.0 c.if-bits-eq281474976710655.true

pub returns : goal.returns
returns c = time_some c.args.s.now c.args.at c.bits_at-bits.result c.bits_at-bits.ensures.0 c.if-bits-eq281474976710655.false
