-- `judge::times::surely_stand` meets its contract: both times for sure, and in line. Assumes nothing.
use Rattle.std.proofs.Common.{◌+◌, ◌&&◌, arith}
use Rattle.judge.proofs.RankLaws.{and_true}
use Rattle.judge.proofs.TimesLaws.{six, both_stand}
use Rattle.judge.proofs.times.surely_stand.Goals as goal

pub returns : goal.returns
returns c = λ e.
    let b = and_true (c.is_sure.result && c.is_sure-2.result) c.in_line-lined.result e in
    let t = and_true c.is_sure.result c.is_sure-2.result b.0 in
    both_stand c.args.s.now c.args.at
    (six c.args.s.now (c.args.at + 8) (c.args.at + 10) (omega arith) c.pair-day.ensures.0 c.word-milli.ensures.0)
    (six c.args.s.now (c.args.at + 14) (c.args.at + 16) (omega arith) c.pair-other_day.ensures.0 c.word-other_milli.ensures.0)
    (c.is_sure.ensures t.0)
    (c.is_sure-2.ensures t.1)
    (c.in_line-lined.ensures b.1)
