-- `replay::run::replay` meets its contract: the refusals in order, and what the parts come to. Assumes nothing.
use mathlib.Core.Path.{◌≡◌, sym, ap, ◌∙◌}
use Prim.Native.Nat.{ℕ, ◌+◌}
use native.Mathlib.Omega.{arith}
use borrow.Author.Tests.{not-true, not-false}
use lib.ListN.{length}
use Rattle.replay.specs.Layout.{number_at, parts, length_at, answers, size_of, sums}
use Rattle.replay.specs.Replay.{missized, uneven, unsummed}
use Rattle.replay.proofs.RunLaws.{eqb_yes, eqb_no}
use Rattle.replay.proofs.run.replay.Goals as goal
use Rattle.replay.proofs.run.replay.Goals.{Else-not-is_sized, After-number_at, Else-number_at-n, After-sum_of}

sized : (c : Else-not-is_sized) → let r = c.args.recorded.now in length r ≡ size_of r
sized c = let i = c.is_sized in eqb_yes (sym i.ensures ∙ not-false i.result c.if-not-is_sized.false-raw)

-- the second count, where the first says
second : (c : After-number_at) → c.number_at.result ≡ answers c.args.recorded.now
second c = c.number_at.ensures.0 ∙ ap (λ (n : ℕ). number_at c.args.recorded.now (1 + n)) c.number_at-n.ensures.0

even : (c : Else-number_at-n) → let r = c.args.recorded.now in answers r ≡ parts r
even c = sym (second (goal.at.Else-number_at-n c).After-number_at) ∙ c.if-number_at-n.false ∙ c.number_at-n.ensures.0

summed : (c : After-sum_of) → let r = c.args.recorded.now in c.sum_of.result ≡ sums (length_at r) (parts r)
summed c = c.sum_of.ensures ∙ ap (sums (length_at c.args.recorded.now)) c.number_at-n.ensures.0

pub returns-then-not-is_sized : goal.returns-then-not-is_sized
returns-then-not-is_sized c =
    let i = c.is_sized in
    missized (eqb_no (sym i.ensures ∙ not-true i.result c.if-not-is_sized.true-raw))

pub number_at-n-requires : goal.number_at-n-requires
number_at-n-requires c = let z = sized c in omega arith

pub number_at-requires : goal.number_at-requires
number_at-requires c = let z = sized (goal.at.number_at-requires c).Else-not-is_sized in omega (arith, c.number_at-n.ensures.0)

pub returns-then-number_at-n : goal.returns-then-number_at-n
returns-then-number_at-n c =
    uneven (sized (goal.at.returns-then-number_at-n c).Else-not-is_sized) (λ e. c.if-number_at-n.true (second (goal.at.returns-then-number_at-n c).After-number_at ∙ e ∙ sym c.number_at-n.ensures.0))

pub sum_of-requires : goal.sum_of-requires
sum_of-requires c =
    let z = sized (goal.at.sum_of-requires c).Else-not-is_sized in
    record { counted = c.number_at-n.ensures.1; come = omega (arith, c.number_at-n.ensures.0) }

pub returns-then-sum_of-product : goal.returns-then-sum_of-product
returns-then-sum_of-product c =
    unsummed (sized (goal.at.returns-then-sum_of-product c).Else-not-is_sized) (even (goal.at.returns-then-sum_of-product c).Else-number_at-n) (λ e. c.if-sum_of-product.true (summed (goal.at.returns-then-sum_of-product c).After-sum_of ∙ e))

pub replay_parts-requires : goal.replay_parts-requires
replay_parts-requires c =
    record { fit = record { sized = sized (goal.at.replay_parts-requires c).Else-not-is_sized; even = even (goal.at.replay_parts-requires c).Else-number_at-n; summed = sym (summed (goal.at.replay_parts-requires c).After-sum_of) ∙ c.if-sum_of-product.false }; counted = c.number_at-n.ensures.0 }
