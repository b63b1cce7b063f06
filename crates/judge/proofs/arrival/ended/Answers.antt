-- `judge::arrival::ended` meets its contract: rows 15 and 16, or the product is whole. Assumes nothing.
use Rattle.judge.proofs.TurnLaws.{said, say_15, say_16, say_whole}
use Rattle.judge.proofs.arrival.ended.Goals as goal

pub returns-then-is_fewer : goal.returns-then-is_fewer
returns-then-is_fewer c =
    said c.args.s.now c.refusal.ensures (say_15 c.requires (c.is_fewer.ensures.some c.if-is_fewer.true))

pub returns-then-d-s : goal.returns-then-d-s
returns-then-d-s c =
    said c.args.s.now c.refusal-then-d-s.ensures (say_16 c.requires (c.is_fewer.ensures.none c.if-is_fewer.false) c.if-d-s.true)

pub returns : goal.returns
returns c = say_whole c.requires (c.is_fewer.ensures.none c.if-is_fewer.false) c.if-d-s.false
