-- `judge::times::stand` meets its contract: for sure, or as `record` judges. Assumes nothing.
use Rattle.std.proofs.Common.{sym}
use Rattle.record.proofs.TimesLaws.{stands}
use Rattle.judge.proofs.times.stand.Goals as goal

pub returns-then-surely_stand : goal.returns-then-surely_stand
returns-then-surely_stand c = sym (c.surely_stand.ensures c.if-surely_stand.true)

pub returns : goal.returns
returns c = stands c.args.s.now c.args.at c.times_stand.result c.requires c.times_stand.ensures
