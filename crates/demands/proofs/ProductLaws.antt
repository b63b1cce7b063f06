-- What `Meets` gives of a product: one MPHR and at most one SPHR, by the order of its records and by its totals; and that a target that is alike has
-- the bytes of class, group and subclass that its pointer names, a byte being below 256. By the follow rule's laws. Assumes nothing.
use Prim.Native.Nat.{ℕ, zero, suc, ◌+◌, ◌≤◌, ◌<◌}
use native.Mathlib.Nat.{le_of_suc-le-suc}
use native.Mathlib.Omega.{arith}
use mathlib.Core.Path.{◌≡◌, sym, subst, ◌∙◌}
use mathlib.Core.List.{List, ◌∷◌, map}
use lib.ListN.{length, get_or}
use Rattle.meter.proofs.IntegerLaws.{bytes_same}
use Rattle.record.proofs.FollowLaws.{Follows, one_mphr, one_sphr}
use Rattle.demands.specs.Product.{class, offset, Aims, Records, none, more, of_class, Meets}
use Rattle.demands.proofs.Accepted.{first_class}

-- each class may follow the one before it
follows : {a : List ℕ} {i p : ℕ} {l : List ℕ} → Records a i p l → Follows (p ∷ map (class a) l)
follows (none e) k h = absurd (omega arith)
follows (more r _ ts) zero h = r.ordered
follows (more r _ ts) (suc k) h = follows ts k (le_of_suc-le-suc h)

module _ {a : List ℕ} (m : Meets a) where
  -- the classes of its records, one after another
  abbrev pub classes : List ℕ
  classes = map (class a) (0 ∷ m.list)

  ordered : Follows classes
  ordered = subst (λ (c : ℕ). Follows (c ∷ map (class a) m.list)) (sym (first_class a m.header.header)) (follows m.records)

  -- ONE MPHR, the first record; AT MOST ONE SPHR, the second
  pub mphr_first : (k : ℕ) → k < length classes → get_or classes k 0 ≡ 1 → k ≡ 0
  mphr_first = one_mphr classes ordered

  pub sphr_second : (k : ℕ) → k < length classes → get_or classes k 0 ≡ 2 → k ≡ 1
  sphr_second = one_sphr classes ordered (first_class a m.header.header)

  -- and so they are counted
  pub mphr_count : of_class a 1 (0 ∷ m.list) ≡ 1
  mphr_count = m.totals 1 (omega arith) (omega arith) ∙ m.header.sums.main

  pub sphr_count : of_class a 2 (0 ∷ m.list) ≤ 1
  sphr_count = omega (arith, m.totals 2 (omega arith) (omega arith), m.header.sums.second)

-- ALIKE MEANS EQUAL BYTES, of class, group and subclass
pub alike_bytes : (a l : List ℕ) (i : ℕ) → ((k : ℕ) → get_or a k 0 < 256) → Aims a l i → (j : ℕ) → j < 3 → get_or a (offset a i + j) 0 ≡ get_or a (i + 20 + j) 0
alike_bytes a l i b m = bytes_same a a (offset a i) (i + 20) 3 (λ k _. b (offset a i + k)) (λ k _. b (i + 20 + k)) m.alike
