-- `cases::answer::has_values`: the numbers passed stand in the case.
use Rattle.std.proofs.Common.{◌≡◌, ℕ, ◌+◌, ◌*◌, ◌<◌, get_or}
use Rattle.cases.specs.Case.{number_at}
use Rattle.cases.proofs.answer.has_values.Given as goal

abbrev pub invariant-loop-i : goal.invariant-loop-i
invariant-loop-i l = (k : ℕ) → k < l.i → get_or l.fn.x.values k 0 ≡ number_at l.case (l.at + 8 * k) 8
