-- `moment::overlap` meets its contract: where the two stand on the line. Assumes nothing.
use Rattle.moment.proofs.MomentLaws.{overlap_is}
use Rattle.moment.proofs.overlap.Goals as goal

pub returns-in-Some-start : goal.returns-in-Some-start
returns-in-Some-start c =
    overlap_is _ _ _ _ _ _ _ _ _ c.in-Some.is c.in-Some-start.is c.place_of.ensures c.place_of-in-Some-start.ensures c.saturating_sub.ensures
