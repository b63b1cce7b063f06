-- `judge::reach::edge_of` meets its contract: the edge stays between lo and d. Assumes nothing.
use Rattle.std.proofs.Common.{le_refl, arith}
use Rattle.judge.proofs.WayLaws.{leads_le}
use Rattle.judge.proofs.ScanLaws.{scan_narrow}
use Rattle.judge.proofs.reach.edge_of.Goals as goal

pub overflow_sub-end : goal.overflow_sub-end
overflow_sub-end c = omega (arith, leads_le c.requires.0.ahead)

pub fit_of-fit-requires : goal.fit_of-fit-requires
fit_of-fit-requires c = (scan_narrow c.loop-k.invariant.0 (le_refl _) c.requires.0, omega arith)
