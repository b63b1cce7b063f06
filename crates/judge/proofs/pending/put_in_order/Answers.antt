-- `judge::pending::put_in_order` meets its contract: std's sort of the part is read as one of what is held. Assumes nothing.
use Rattle.std.proofs.Common.{◌≡◌, length, rules}
use Rattle.std.proofs.lemmas.List.Sorted.{IsNonDecreasingBy-from_sort}
use Rattle.judge.proofs.EaseLaws.{part_in_order}
use Rattle.judge.proofs.pending.put_in_order.Goals as goal

pub returns-clause-sorted : goal.returns-clause-sorted
returns-clause-sorted c =
    let as_many : length c.sort_unstable.new.self ≡ c.args.count = search rules in
    part_in_order _ _ as_many (IsNonDecreasingBy-from_sort (λ x. x) _ c.sort_unstable.ensures.sorted)
