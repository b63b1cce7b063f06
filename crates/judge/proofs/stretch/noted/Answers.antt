-- `judge::stretch::noted` meets its contract: the stretch under way has grown, and the longest is one of two. Assumes nothing.
use Rattle.std.proofs.Common.{◌≡◌, ℕ, ◌⊎◌, List, inl, inr}
use Rattle.judge.specs.Stretch.{StretchIs}
use Rattle.judge.specs.declared.stretch.Stretch.{Stretch}
use Rattle.judge.proofs.stretch.noted.Goals as goal

one_of : {a : List ℕ} {r x y : Stretch} → (r ≡ x) ⊎ (r ≡ y) → StretchIs a x → StretchIs a y → StretchIs a r
one_of (inl e) m n = rw e m
one_of (inr e) m n = rw e n

pub returns : goal.returns
returns c =
    let g = c.grown-last.ensures in
    record {
      even = λ a m n. let l = g.even a m.last n in record { last = l; longest = one_of c.longer-longest.ensures m.longest l };
      counted = g.counted;
    }
