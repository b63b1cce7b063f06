-- `replay::write::sum_in` meets its contract: the sum of a list is the sum of what stands at each place (SumLaws). Assumes nothing.
use mathlib.Core.Path.{◌≡◌, ◌∙◌}
use Rattle.std.proofs.Common.{rules}
use Rattle.std.specs.List.{sum}
use Rattle.replay.proofs.SumLaws.{sum_is}
use Rattle.replay.proofs.write.sum_in.Goals as goal

pub returns : goal.returns
returns c =
    let e : c.sum.result ≡ sum c.args.lengths.now = search rules in
    e ∙ sum_is c.args.lengths.now
