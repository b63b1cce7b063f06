-- NO SECOND RANK of a header, and no second answer of `is_fewer`: what the two promise determines what they answer. By the numbers 6 to 11, each of
-- which says whether it is the lowest. Assumes nothing.
use Rattle.std.proofs.Common.{◌≡◌, ℕ, suc, ◌≤◌, Bool, true, false, List, refl, le_trans, arith}
use native.Mathlib.Decide.{ℕ_discrete}
use Rattle.judge.specs.Step.{Lowest, RankIs}
use Rattle.judge.specs.Turning.{FewerIs}

past : {s n : ℕ} → n ≤ s → (s ≡ n → ⊥) → suc n ≤ s
past h d = omega (arith, d)

module _ {P6 P7 P8 P9 P10 P11 : Type 0} where
  below : {r s : ℕ} → Lowest P6 P7 P8 P9 P10 P11 r → Lowest P6 P7 P8 P9 P10 P11 s → r ≤ s
  below {r} {s} x y = go (ℕ_discrete s 6) (ℕ_discrete s 7) (ℕ_discrete s 8) (ℕ_discrete s 9) (ℕ_discrete s 10) (ℕ_discrete s 11)
    where
      go : Dec (s ≡ 6) → Dec (s ≡ 7) → Dec (s ≡ 8) → Dec (s ≡ 9) → Dec (s ≡ 10) → Dec (s ≡ 11) → r ≤ s
      go (yes e) _ _ _ _ _ = omega (arith, e, x.six.least (y.six.is e))
      go (no _) (yes e) _ _ _ _ = omega (arith, e, x.seven.least (y.seven.is e))
      go (no _) (no _) (yes e) _ _ _ = omega (arith, e, x.eight.least (y.eight.is e))
      go (no _) (no _) (no _) (yes e) _ _ = omega (arith, e, x.nine.least (y.nine.is e))
      go (no _) (no _) (no _) (no _) (yes e) _ = omega (arith, e, x.ten.least (y.ten.is e))
      go (no _) (no _) (no _) (no _) (no _) (yes e) = omega (arith, e, x.eleven.least (y.eleven.is e))
      go (no a) (no b) (no c) (no d) (no e) (no f) = le_trans x.high (past (past (past (past (past (past y.low a) b) c) d) e) f)

  pub one_lowest : {r s : ℕ} → Lowest P6 P7 P8 P9 P10 P11 r → Lowest P6 P7 P8 P9 P10 P11 s → r ≡ s
  one_lowest x y = omega (arith, below x y, below y x)

pub unique_header_rank : (h : List ℕ) (left p : ℕ) (ts t : List ℕ) (r s : ℕ) → RankIs h 0 left p ts t r → RankIs h 0 left p ts t s → r ≡ s
unique_header_rank h left p ts t r s x y = one_lowest x y

pub unique_is_fewer : (totals tally : List ℕ) (r s : Bool) → FewerIs totals tally r → FewerIs totals tally s → r ≡ s
unique_is_fewer totals tally true true x y = refl
unique_is_fewer totals tally false false x y = refl
unique_is_fewer totals tally true false x y = absurd (y.none refl (x.some refl))
unique_is_fewer totals tally false true x y = absurd (x.none refl (y.some refl))
