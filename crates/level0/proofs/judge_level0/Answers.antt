-- `level0::judge_level0` meets its contract: the table of the code is the profile. Assumes nothing.
use borrow.Author.Rules.{rules}
use Rattle.level0.specs.Profile.{level0}
use Rattle.level0.proofs.judge_level0.Goals as goal

pub returns : goal.returns
unfolding level0
returns c = search rules
