-- `watch::end` meets its contract: fewer records of a class than its total, bytes beyond the product, or neither (WatchLaws). Assumes nothing.
use Rattle.watch.proofs.WatchLaws.{short_right, long_right, end_right}
use Rattle.watch.proofs.end.Goals as goal

pub returns-then-is_fewer : goal.returns-then-is_fewer
returns-then-is_fewer c = λ b p base ss gs ks h u w e m l. short_right w e (c.is_fewer.ensures.some c.if-is_fewer.true) c.refuse.ensures.0 c.refuse.ensures.1

pub returns-then-place-len : goal.returns-then-place-len
returns-then-place-len c = λ b p base ss gs ks h u w e m l. long_right w e (c.is_fewer.ensures.none c.if-is_fewer.false) l c.if-place-len.true c.refuse-then-place-len.ensures.0 c.refuse-then-place-len.ensures.1

pub returns : goal.returns
returns c = λ b p base ss gs ks h u w e m l. end_right w e (c.is_fewer.ensures.none c.if-is_fewer.false) m l c.if-place-len.false
