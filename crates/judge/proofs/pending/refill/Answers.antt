-- `judge::pending::refill` meets its contract: nothing is held, or what was gathered, in order. Assumes nothing.
use Rattle.std.proofs.Common.{le_refl, arith}
use Rattle.judge.proofs.ScanLaws.{scan_narrow}
use Rattle.judge.proofs.EaseLaws.{ready_none, ready_filled}
use Rattle.judge.proofs.pending.refill.Goals as goal

pub edge_of-edge-requires : goal.edge_of-edge-requires
edge_of-edge-requires c = let k = c.requires in (scan_narrow (omega arith) (le_refl _) k.0, omega (arith, k.1))

pub gather-count-requires : goal.gather-count-requires
gather-count-requires c = scan_narrow (le_refl _) c.edge_of-edge.ensures c.requires.0

pub returns-then-held-count : goal.returns-then-held-count
returns-then-held-count c = ready_none c.nothing_held.ensures c.gather-count.ensures.same

pub returns : goal.returns
returns c =
    ready_filled c.gather-count.ensures c.if-held-count.false c.put_in_order.ensures.kept c.put_in_order.ensures.sorted c.put_in_order.ensures.rest
