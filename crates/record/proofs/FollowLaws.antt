-- The follow rule: what is no class neither follows nor is followed, and in a product's list of classes an MPHR stands only at the start and
-- an SPHR only right after it. By the first class that may follow: at least 2, and at least 3 after 2 or more. Assumes nothing.
use mathlib.Core.Path.{◌≡◌, refl}
use mathlib.Core.Bool.{Bool, true, false, cond, ◌&&◌, ◌||◌, and-false, beq}
use mathlib.Core.List.{List, []}
use Prim.Native.Nat.{ℕ, zero, suc, ◌-◌, ◌≤◌, ◌<◌}
use native.Mathlib.Omega.{arith}
use native.Mathlib.Numerals.{unary_clauses}
use borrow.Author.Tests.{leb-true, lt-leb, ne_eqb}
use lib.Dec.{T, eqb, leb}
use lib.ListN.{length, get_or}
use Rattle.calendar.proofs.Range.{below, at, same}
use Rattle.record.specs.Follow.{first_after, may_follow, Ruled}
use Rattle.record.proofs.FieldLaws.{both}

-- ---- beyond the classes
-- no class is 9 or more
nine : (next : ℕ) → leb 9 next && leb next 8 ≡ false
nine next = go (leb 9 next) refl
  where
    go : (b : Bool) → leb 9 next ≡ b → b && leb next 8 ≡ false
    go true e = lt-leb next 8 (leb-true 9 next e)
    go false e = refl

pub after_none : (last next : ℕ) → 8 < last → may_follow last next ≡ false
unfolding may_follow first_after
after_none last next h =
    rw (ne_eqb last 1 (λ e. omega arith), ne_eqb last 2 (λ e. omega arith), ne_eqb last 3 (λ e. omega arith), ne_eqb last 4 (λ e. omega arith), ne_eqb last 5 (λ e. omega arith), ne_eqb last 6 (λ e. omega arith), ne_eqb last 7 (λ e. omega arith), ne_eqb last 8 (λ e. omega arith)) (nine next)

pub none_after : (last next : ℕ) → 8 < next → may_follow last next ≡ false
unfolding may_follow
none_after last next h = rw (lt-leb next 8 h) (and-false (leb (first_after last) next))

pub after_zero : (last next : ℕ) → last < 1 → may_follow last next ≡ false
unfolding may_follow first_after
after_zero zero next h = nine next
after_zero (suc last) next h = absurd (omega arith)

from_two : (c : ℕ) → 2 ≤ first_after c
unfolding first_after
from_two c = go (eqb c 1) (eqb c 2 || eqb c 3) (eqb c 4 || eqb c 5) (eqb c 6 || eqb c 7) (eqb c 8)
  where
    go : (p q r s t : Bool) → 2 ≤ cond p 2 (cond q 3 (cond r 4 (cond s 6 (cond t 8 9))))
    go true q r s t = omega arith
    go false true r s t = omega arith
    go false false true s t = omega arith
    go false false false true t = omega arith
    go false false false false true = omega arith
    go false false false false false = omega arith

pub zero_after : (last next : ℕ) → next < 1 → may_follow last next ≡ false
unfolding may_follow
zero_after last next h = rw (lt-leb (first_after last) next (omega (arith, from_two last))) refl

-- ---- a table of yes and no that agrees with the rule, in each of its 64 places: a row for each class, a column for each class
abbrev agrees : List (List Bool) → ℕ → ℕ → Bool
agrees t i j = beq (get_or (get_or t i []) j false) (may_follow (suc i) (suc j))

abbrev pub is_table : List (List Bool) → Bool
is_table t = below (λ (i : ℕ). below (agrees t i) 8) 8

pub in_table : (t : List (List Bool)) → T (is_table t) → (last next : ℕ) → 1 ≤ last → last ≤ 8 → 1 ≤ next → next ≤ 8 → get_or (get_or t (last - 1) []) (next - 1) false ≡ may_follow last next
in_table t e zero next h l m n = absurd (omega arith)
in_table t e (suc i) zero h l m n = absurd (omega arith)
in_table t e (suc i) (suc j) h l m n =
    simp unary_clauses
    (same (get_or (get_or t i []) j false) (may_follow (suc i) (suc j))
    (at (agrees t i) 8 (at (λ (i : ℕ). below (agrees t i) 8) 8 e i (omega arith)) j (omega arith)))

pub ruled : (t : List (List Bool)) → T (is_table t) → Ruled t
ruled t e = record { rule = in_table t e }

-- ---- one MPHR, at most one SPHR
-- each class may follow the one before it
abbrev pub Follows : List ℕ → Type 0
Follows cs = (k : ℕ) → suc k < length cs → may_follow (get_or cs k 0) (get_or cs (suc k) 0) ≡ true

from_three : (c : ℕ) → 2 ≤ c → 3 ≤ first_after c
unfolding first_after
from_three c h = rw (ne_eqb c 1 (λ e. omega arith)) (go (eqb c 2 || eqb c 3) (eqb c 4 || eqb c 5) (eqb c 6 || eqb c 7) (eqb c 8))
  where
    go : (q r s t : Bool) → 3 ≤ cond q 3 (cond r 4 (cond s 6 (cond t 8 9)))
    go true r s t = omega arith
    go false true s t = omega arith
    go false false true t = omega arith
    go false false false true = omega arith
    go false false false false = omega arith

follow_least : (last next : ℕ) → may_follow last next ≡ true → first_after last ≤ next
unfolding may_follow
follow_least last next e = leb-true (first_after last) next (both (leb (first_after last) next) (leb next 8) e).0

module _ (cs : List ℕ) (f : Follows cs) where
  two_on : (k : ℕ) → suc k < length cs → 2 ≤ get_or cs (suc k) 0
  two_on k h = omega (arith, from_two (get_or cs k 0), follow_least (get_or cs k 0) (get_or cs (suc k) 0) (f k h))

  three_on : (k : ℕ) → suc (suc k) < length cs → 3 ≤ get_or cs (suc (suc k)) 0
  three_on k h =
      omega (arith, from_three (get_or cs (suc k) 0) (two_on k (omega arith)), follow_least (get_or cs (suc k) 0) (get_or cs (suc (suc k)) 0) (f (suc k) h))

  -- ONE MPHR: class 1 stands only at the start
  pub one_mphr : (k : ℕ) → k < length cs → get_or cs k 0 ≡ 1 → k ≡ 0
  one_mphr zero h e = refl
  one_mphr (suc k) h e = absurd (omega (arith, two_on k h))

  -- AT MOST ONE SPHR: where an MPHR stands at the start, class 2 stands only right after it
  pub one_sphr : get_or cs 0 0 ≡ 1 → (k : ℕ) → k < length cs → get_or cs k 0 ≡ 2 → k ≡ 1
  one_sphr s zero h e = absurd (omega arith)
  one_sphr s (suc zero) h e = refl
  one_sphr s (suc (suc k)) h e = absurd (omega (arith, three_on k h))
