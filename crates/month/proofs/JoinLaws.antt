-- What the code answers, from what it calls. By cases on the answers. Assumes nothing.
use Prim.Native.Nat.{ℕ, ◌+◌}
use native.Mathlib.Omega.{arith}
use mathlib.Core.Path.{◌≡◌, sym, subst}
use mathlib.Core.List.{List, ◌∷◌}
use lib.ListN.{set, replicate}
use Rattle.calendar.specs.Said.{refusing}
use Rattle.calendar.specs.declared.Refusal.{Refusal}
use Rattle.demands.specs.Product.{Meets}
use Rattle.month.specs.Report.{contribution, tallied, Contributes, accepted, Added, JoinIs, joined, past, MergeIs, merged, over}
use Rattle.std.specs.declared.option.Option.TheVariants.{None}
use Rattle.std.specs.declared.option.Option.{Option}
use Rattle.std.specs.declared.result.Result.TheVariants.{Ok, Err}
use Rattle.std.specs.declared.result.Result.{Result}

module _ {x v : List ℕ} (said : Option Refusal) where
  pub join_done : {y : List ℕ} {r : Result Unit Refusal} → r ≡ Ok tt → MergeIs x v r y → JoinIs x v said (Ok said) y
  join_done e (merged w) = joined w
  join_done e (over d) = absurd (let z : ◌≡◌ {A = ℕ} 0 1 = cc in omega arith)

  pub join_over : {y : List ℕ} {r : Result Unit Refusal} {s : Added} {q : Refusal} → r ≡ Err q → s ≡ Err q → MergeIs x v r y → JoinIs x v said s y
  join_over e d (merged w) = absurd (let z : ◌≡◌ {A = ℕ} 0 1 = cc in omega arith)
  join_over {s = s} {q = q} e d (over n) = let z : Err (refusing 36 0) ≡ s = (let k : refusing 36 0 ≡ q = cc in rw k (sym d)) in subst (λ (k : Added). JoinIs x v said k x) z (past n)

pub merge_at : {x y z w : List ℕ} {r : Result Unit Refusal} → z ≡ w → MergeIs x y r w → MergeIs x y r z
merge_at {x} {y} {r = r} e m = subst (λ (l : List ℕ). MergeIs x y r l) (sym e) m

pub tally_at : {x y : List ℕ} {said : Option Refusal} {r : Added} (n k : ℕ) → k ≡ n → JoinIs x (set (set (replicate 38 0) 0 1) (20 + k) 1) said r y → JoinIs x (tallied n) said r y
tally_at {x} {y} {said} {r} n k e j = subst (λ (m : ℕ). JoinIs x (tallied m) said r y) e j

pub counts_at : {a v : List ℕ} (t : Meets a) → v ≡ contribution a (0 ∷ t.list) → Contributes a None v
counts_at {a} t e = subst (λ (l : List ℕ). Contributes a None l) (sym e) (accepted t)
