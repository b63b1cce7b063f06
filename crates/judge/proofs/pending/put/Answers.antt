-- `judge::pending::put` meets its contract. Assumes nothing.
use Rattle.std.proofs.Common.{arith}
use Rattle.judge.proofs.PendingLaws.{put_one}
use Rattle.judge.proofs.pending.put.Goals as goal

pub returns : goal.returns
returns c = put_one c.args.held.now c.args.n c.args.entry (omega arith)
