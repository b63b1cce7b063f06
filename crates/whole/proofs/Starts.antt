-- `parse` READS THE PRODUCT'S RECORDS: where they start is the list that `Meets` has, and TOTAL_RECORDS is how many. Assumes nothing.
use mathlib.Core.Path.{◌≡◌, refl, sym, ap, ◌∙◌}
use mathlib.Core.List.{List}
use Prim.Native.Nat.{ℕ, zero, suc, ◌+◌, ◌-◌, ◌<◌}
use native.Mathlib.Omega.{arith}
use lib.ListN.{length, get_or}
use lib.Seq.{ext_get_or}
use Rattle.mphr.specs.Table.{total}
use Rattle.demands.specs.Product.{Meets}
use Rattle.demands.specs.Demands.{start}
use Rattle.meter.specs.Integer.{Bytes}
use Rattle.whole.specs.Parse.{parse_at, starts_at, parse}
use Rattle.whole.proofs.Parsed.{all_counted, recs_length}
use Rattle.whole.proofs.Answers.{nth_start}

starts_long : (a : List ℕ) (k n : ℕ) → length (starts_at a k n) ≡ n
starts_long a k zero = refl
starts_long a k (suc n) = ap suc (starts_long a (suc k) n)

starts_nth : (a : List ℕ) (k n j : ℕ) → j < n → get_or (starts_at a k n) j 0 ≡ start a (k + j)
starts_nth a k zero j h = absurd (omega arith)
starts_nth a k (suc n) zero h = let z : k + 0 ≡ k = omega arith in rw z
starts_nth a k (suc n) (suc j) h = let z : suc k + j ≡ k + suc j = omega arith in rw z at (starts_nth a (suc k) n j (omega arith))

module _ (a : List ℕ) (bs : Bytes a) (m : Meets a) where
  many : total a 0 - 1 ≡ length m.list
  many = omega (arith, all_counted a bs m, recs_length a m.list)

  starts_are : starts_at a 1 (total a 0 - 1) ≡ m.list
  starts_are =
      ext_get_or 0 (starts_at a 1 (total a 0 - 1)) m.list (starts_long a 1 (total a 0 - 1) ∙ many)
      (λ j h.
      let l : j < length m.list = omega (arith, starts_long a 1 (total a 0 - 1), many) in
      let z : 1 + j ≡ suc j = omega arith in
      starts_nth a 1 (total a 0 - 1) j (omega (arith, many)) ∙ ap (start a) z ∙ sym (nth_start a m (suc j) (omega arith)))

  pub parse_is : parse a ≡ parse_at a m.list
  parse_is = ap (parse_at a) starts_are
