-- Each of some bytes is lo to hi, by the least and the greatest of them: what bounds them all bounds these two. Assumes nothing.
use Prim.Native.Nat.{ℕ, ◌+◌, ◌≤◌, ◌<◌}
use native.Mathlib.Decide.{dec_lt}
use native.Mathlib.Omega.{arith}
use mathlib.Core.Path.{◌≡◌, refl, sym, ◌∙◌}
use mathlib.Core.Bool.{Bool, true, false}
use mathlib.Core.List.{List}
use borrow.Author.Tests.{le-leb, lt-leb}
use lib.Dec.{leb}
use lib.ListN.{get_or}
use Rattle.meter.specs.General.{each}
use Rattle.meter.proofs.GeneralRuns.{In, each_in, in_each}

-- least and most are the bounds of the first j bytes from i on, and of lo and hi
pub record Bounds (lo hi : ℕ) (a : List ℕ) (i j least most : ℕ) : Type 0 where
  pub between : (k : ℕ) → k < j → In least most (get_or a (i + k) 0)
  pub tight : ((k : ℕ) → k < j → In lo hi (get_or a (i + k) 0)) → (lo ≤ least) × (most ≤ hi)

not_so : (b : Bool) → (b ≡ true → ⊥) → b ≡ false
not_so true f = absurd (f refl)
not_so false f = refl

module _ {lo hi : ℕ} {a : List ℕ} {i : ℕ} where
  pub each_low : {n least most : ℕ} → Bounds lo hi a i n least most → least < lo → false ≡ each lo hi a i n
  each_low {n} b h = sym (not_so (each lo hi a i n) (λ e. omega (arith, (b.tight (each_in lo hi a i n e)).0)))

  pub each_high : {n least most : ℕ} → Bounds lo hi a i n least most → lo ≤ least → leb most hi ≡ each lo hi a i n
  each_high {n} {least} {most} b l = go (dec_lt hi most)
    where
      go : Dec (hi < most) → leb most hi ≡ each lo hi a i n
      go (yes h) = lt-leb most hi h ∙ sym (not_so (each lo hi a i n) (λ e. omega (arith, (b.tight (each_in lo hi a i n e)).1)))
      go (no h) = le-leb most hi (omega arith) ∙ sym (in_each lo hi a i n (λ k g. let v = b.between k g in (omega (arith, v.0), omega (arith, v.1))))
