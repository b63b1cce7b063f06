-- The line under way: before the first, within one, and after the last. A line starts after each that is before it (start-mono). Assumes
-- nothing.
use mathlib.Core.Path.{refl}
use mathlib.Core.Logic.{inl, inr}
use Prim.Native.Nat.{ℕ, suc, ◌≤◌, ◌<◌}
use native.Mathlib.Decide.{dec_le, dec_lt}
use native.Mathlib.Omega.{arith}
use Rattle.mphr.specs.Layout.{line_start, LineAfter}
use Rattle.mphr.specs.Resumed.{UnderWay}
use Rattle.mphr.proofs.LayoutLaws.{start_72, start_mono}

-- line k is the first that starts after n
after : {n : ℕ} (k : ℕ) → k ≤ 72 → ((j : ℕ) → j < k → line_start j ≤ n) → n < line_start k → LineAfter n (line_start k)
after {n} k h before l = record {
  start = (k, h, refl);
  first = λ j _ m. first j m (dec_lt j k);
  after = λ _. l;
  none = λ m. absurd (omega (arith, start_mono {j = k} {k = 72} h, start_72));
}
  where
    first : (j : ℕ) → n < line_start j → Dec (j < k) → line_start k ≤ line_start j
    first j m (yes d) = absurd (omega (arith, before j d))
    first j m (no d) = start_mono (omega (arith, d))

pub at_first : {n : ℕ} → n < 20 → UnderWay n 0 20
unfolding line_start
at_first l = record {
  come = inl refl;
  last = λ j _ m. absurd (omega (arith, start_mono {j = 0} {k = j} (omega arith)));
  most = omega arith;
  end = after 0 (omega arith) (λ j m. absurd (omega arith)) l;
}

pub at_line : {n k : ℕ} → k < 72 → line_start k ≤ n → n < line_start (suc k) → UnderWay n k (line_start (suc k))
at_line {n} {k} h come l = record {
  come = inr come;
  last = λ j _ m. last j m (dec_le j k);
  most = omega arith;
  end = after (suc k) (omega arith) (λ j m. omega (arith, start_mono {j = j} {k = k} (omega arith))) l;
}
  where
    last : (j : ℕ) → line_start j ≤ n → Dec (j ≤ k) → j ≤ k
    last j m (yes d) = d
    last j m (no d) = absurd (omega (arith, start_mono {j = suc k} {k = j} (omega (arith, d))))

pub at_end : {n : ℕ} → 3307 ≤ n → UnderWay n 72 3307
at_end l = record {
  come = inr (omega (arith, start_72));
  last = λ j h _. h;
  most = omega arith;
  end = record {
    start = (72, omega arith, omega (arith, start_72));
    first = λ j h m. absurd (omega (arith, start_mono {j = j} {k = 72} h, start_72));
    after = λ m. absurd (omega arith);
    none = λ _. refl;
  };
}
