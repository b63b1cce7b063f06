-- `judge::header::may_follow` meets its contract: both are classes, so the table has the rule for them. Assumes nothing.
use Rattle.std.proofs.Common.{arith}
use Rattle.judge.proofs.RankLaws.{class_most}
use Rattle.judge.proofs.header.may_follow.Goals as goal

pub overflow_sub-result : goal.overflow_sub-result
overflow_sub-result c = omega (arith, class_most c.args.last c.requires.0)

pub overflow_sub-result-2 : goal.overflow_sub-result-2
overflow_sub-result-2 c = omega (arith, class_most c.args.class c.requires.1)

pub bounds-follow-last : goal.bounds-follow-last
bounds-follow-last c = omega (arith, class_most c.args.last c.requires.0)

pub bounds-follow-class : goal.bounds-follow-class
bounds-follow-class c = omega (arith, class_most c.args.class c.requires.1)

pub returns : goal.returns
returns c ruled =
    let l = class_most c.args.last c.requires.0 in
    let n = class_most c.args.class c.requires.1 in
    ruled.rule c.args.last c.args.class l.0 l.1 n.0 n.1
