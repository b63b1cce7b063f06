-- `handheld::times::wl_time_order` meets its contract: the numbers told are those said of the answer. Assumes nothing.
use Rattle.std.proofs.Common.{rules}
use Rattle.told.proofs.Laws.{told_as}
use Rattle.handheld.specs.Times.{order_said}
use Rattle.handheld.proofs.times.wl_time_order.Goals as goal

pub returns : goal.returns
returns c = record { lower = c.time_order.result; right = search rules; says = told_as order_said c.time_order.result c.told.ensures }
