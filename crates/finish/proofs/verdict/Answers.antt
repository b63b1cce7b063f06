-- `finish::verdict` meets its contract: the arrival judge's answer, of a product that is finished. Assumes nothing.
use Rattle.finish.proofs.Filling.{judged_is}
use Rattle.finish.proofs.verdict.Goals as goal

pub returns : goal.returns
returns c = judged_is c.args.s.now c.judge_extent.result c.judged.result c.judged.ensures c.judge_extent.ensures
