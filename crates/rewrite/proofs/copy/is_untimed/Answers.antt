-- `rewrite::copy::is_untimed` meets its contract: the records of the two parts. Assumes nothing.
use Rattle.rewrite.proofs.UntimedLaws.{texts_ended, seen_ended}
use Rattle.rewrite.proofs.copy.is_untimed.Goals as goal

pub is_same_untimed-requires : goal.is_same_untimed-requires
is_same_untimed-requires c = let a = c.args in texts_ended a.s.now a.t.now a.from a.at a.n c.requires.texts

pub returns : goal.returns
returns c = let a = c.args in seen_ended a.s.now a.t.now a.from a.at a.n c.is_same_untimed.ensures
