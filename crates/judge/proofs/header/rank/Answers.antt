-- `judge::header::rank` meets its contract: the header's own rank is the product's. Assumes nothing.
use Rattle.std.proofs.Common.{◌-◌, refl, arith}
use Rattle.judge.proofs.RankLaws.{ranked_of}
use Rattle.judge.proofs.header.rank.Goals as goal

pub returns : goal.returns
returns c =
    let k = c.requires.0 in
    ranked_of {h = c.args.s.now} {a = c.args.s.now} {o = c.args.at} {i = c.args.at} {n = 20} (record { byte = λ k l. refl }) (omega arith) c.args.totals.now c.args.tally.now c.args.prev (c.args.d - c.args.at)
    (omega (arith, k.room, k.d_is)) (omega (arith, k.d_is)) k.known k.totals (c.rank_in.ensures c.requires.1)
