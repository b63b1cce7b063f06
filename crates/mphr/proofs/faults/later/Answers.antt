-- `mphr::faults::later` meets its contract: each way out by its tests. Assumes nothing.
use Rattle.text.proofs.Exact.{count_is}
use Rattle.mphr.specs.Table.{declared}
use Rattle.mphr.proofs.LineLaws.{declared_is}
use Rattle.mphr.specs.Turning.{Numbered}
use mathlib.Core.Logic.{inl, inr}
use native.Mathlib.Omega.{arith}
use mathlib.Core.Path.{◌≡◌, refl, sym, ◌∙◌}
use Rattle.mphr.proofs.faults.later.Goals as goal
use Rattle.mphr.proofs.faults.later.Goals.{After-count_at-d}

-- D
size_is : (c : After-count_at-d) → let s = c.args in Numbered s.s.now s.k → c.count_at-d.result ≡ declared s.s.now
size_is c q =
    let p = q.0 c.if-k-eq28.true in
    c.count_at-d.ensures ∙ count_is c.args.s.now 1485 11 p.1 (omega arith) (omega (arith, p.0)) ∙ sym (declared_is c.args.s.now)

pub returns-then-d-lt3307 : goal.returns-then-d-lt3307
returns-then-d-lt3307 c =
    let k = c.if-k-eq28.true in
    λ q. record { four = λ _. (k, inl (omega (arith, size_is (goal.at.returns-then-d-lt3307 c).After-count_at-d q))); five = λ e. absurd (omega arith); size = λ n. absurd (n refl); totals = λ _ e. absurd (omega arith) }

pub returns-then-d-gt2147483647 : goal.returns-then-d-gt2147483647
returns-then-d-gt2147483647 c =
    let k = c.if-k-eq28.true in
    λ q. record { four = λ _. (k, inr (omega (arith, size_is (goal.at.returns-then-d-gt2147483647 c).After-count_at-d q))); five = λ e. absurd (omega arith); size = λ n. absurd (n refl); totals = λ _ e. absurd (omega arith) }

pub returns-then-k-eq28 : goal.returns-then-k-eq28
returns-then-k-eq28 c =
    let k = c.if-k-eq28.true in
    λ q. record { four = λ e. absurd (omega arith); five = λ e. absurd (omega arith); size = λ _ _. omega (arith, size_is (goal.at.returns-then-k-eq28 c).After-count_at-d q); totals = λ _ e. absurd (omega arith) }

pub total_of-requires : goal.total_of-requires
total_of-requires c = omega arith

pub returns-then-total_of-ne1 : goal.returns-then-total_of-ne1
returns-then-total_of-ne1 c = let k = c.if-k-eq63.true in λ q. record { four = λ e. absurd (omega arith); five = λ _. (k, λ s. c.if-total_of-ne1.true (c.total_of.ensures.0 (q.1 k) ∙ s.main)); size = λ _ e. absurd (omega arith); totals = λ n. absurd (n refl) }

pub total_of-requires-then-k-eq63 : goal.total_of-requires-then-k-eq63
total_of-requires-then-k-eq63 c = omega arith

pub returns-then-total_of-gt1 : goal.returns-then-total_of-gt1
returns-then-total_of-gt1 c = let k = c.if-k-eq63.true in λ q. record { four = λ e. absurd (omega arith); five = λ _. (k, λ s. omega (arith, s.second, c.total_of-then-k-eq63.ensures.0 (q.1 k))); size = λ _ e. absurd (omega arith); totals = λ n. absurd (n refl) }

pub total_of-requires-then-k-eq63-2 : goal.total_of-requires-then-k-eq63-2
total_of-requires-then-k-eq63-2 c = omega arith

pub returns-then-total_of-sum_of : goal.returns-then-total_of-sum_of
returns-then-total_of-sum_of c = let k = c.if-k-eq63.true in λ q. record { four = λ e. absurd (omega arith); five = λ _. (k, λ s. c.if-total_of-sum_of.true (c.total_of-then-k-eq63-2.ensures.0 (q.1 k) ∙ s.all ∙ sym (c.sum_of.ensures (q.1 k)))); size = λ _ e. absurd (omega arith); totals = λ n. absurd (n refl) }

pub returns-then-k-eq63 : goal.returns-then-k-eq63
returns-then-k-eq63 c = let k = c.if-k-eq63.true in λ q. record { four = λ e. absurd (omega arith); five = λ e. absurd (omega arith); size = λ _ e. absurd (omega arith); totals = λ _ _. record { main = sym (c.total_of.ensures.0 (q.1 k)) ∙ c.if-total_of-ne1.false; second = omega (arith, c.total_of-then-k-eq63.ensures.0 (q.1 k)); all = sym (c.total_of-then-k-eq63-2.ensures.0 (q.1 k)) ∙ c.if-total_of-sum_of.false ∙ c.sum_of.ensures (q.1 k) } }

pub returns : goal.returns
returns c = λ q. record { four = λ e. absurd (omega arith); five = λ e. absurd (omega arith); size = λ _ e. absurd (omega arith); totals = λ _ e. absurd (omega arith) }
