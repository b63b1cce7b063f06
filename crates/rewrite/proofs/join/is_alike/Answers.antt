-- `rewrite::join::is_alike` meets its contract: the four fields, then the records. Assumes nothing.
use mathlib.Core.Path.{sym}
use Rattle.rewrite.proofs.JoinPlanLaws.{two_headers}
use Rattle.rewrite.proofs.join.is_alike.Goals as goal

pub slice_bounds-four_agree-end : goal.slice_bounds-four_agree-end
slice_bounds-four_agree-end c = let t = c.requires.two in sym (two_headers t).first_long

pub slice_bounds-four_agree-end-2 : goal.slice_bounds-four_agree-end-2
slice_bounds-four_agree-end-2 c = let t = c.requires.two in sym (two_headers t).second_long

pub four_agree-requires : goal.four_agree-requires
four_agree-requires c = let h = two_headers c.requires.two in (h.first_long, h.second_long)
