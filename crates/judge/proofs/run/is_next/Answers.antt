-- `judge::run::is_next` meets its contract: each test that it passed. Assumes nothing.
use Rattle.judge.proofs.RankLaws.{clash}
use Rattle.judge.proofs.run.is_next.Goals as goal

pub returns-then-limit-at : goal.returns-then-limit-at
returns-then-limit-at c e = clash e

pub returns-then-limit-at-2 : goal.returns-then-limit-at-2
returns-then-limit-at-2 c e = clash e
