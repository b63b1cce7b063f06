-- `cases::input::is_same` meets its contract: the room is compared with the part of the case as a slice. Assumes nothing.
use Rattle.std.proofs.Common.{◌≡◌, ℕ, true, List, length, get_or, ap, ◌∙◌, rules, arith}
use Rattle.meter.proofs.Parts.{part, part_at}
use Rattle.cases.proofs.input.is_same.Goals as goal

pub returns : goal.returns
returns c =
    let a = c.args in
    let n = length a.room.now in
    let y : c.eq.result ≡ true → a.room.now ≡ part a.case.now a.at n = search rules in
    λ e. record { there = omega arith; bytes = λ i h. ap (λ (s : List ℕ). get_or s i 0) (y e) ∙ part_at a.case.now a.at n i h }
