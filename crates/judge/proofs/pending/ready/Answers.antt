-- `judge::pending::ready` meets its contract: the buffer is filled anew, or what is held is enough. Assumes nothing.
use Rattle.std.proofs.Common.{le_refl, arith}
use Rattle.judge.proofs.ScanLaws.{scan_narrow}
use Rattle.judge.proofs.EaseLaws.{ready_still}
use Rattle.judge.proofs.pending.ready.Goals as goal

pub refill-requires : goal.refill-requires
refill-requires c = let k = c.requires in (scan_narrow (le_refl _) (omega (arith, k.2)) k.0.cursor, k.3, k.4)

pub refill-requires-then-hold-to : goal.refill-requires-then-hold-to
refill-requires-then-hold-to c = let k = c.requires in (scan_narrow (le_refl _) (omega (arith, k.2)) k.0.cursor, k.3, k.4)

pub returns : goal.returns
returns c = ready_still c.requires.1 c.if-hold-w.false
