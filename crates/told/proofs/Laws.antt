-- LAWS for the functions that hosts call: what was promised of a value holds of an equal one, and the numbers that `told` gives are those said of the
-- answer. Assumes nothing.
use mathlib.Core.Path.{◌≡◌, subst}
use mathlib.Core.List.{List}
use Prim.Native.Nat.{ℕ}
use Rattle.std.specs.Prelude.{MatchResult}
use Rattle.std.specs.declared.result.Result.TheVariants.{Ok, Err}
use Rattle.std.specs.declared.result.Result.{Result}
use Rattle.calendar.specs.declared.Refusal.{Refusal}

-- a promise of a value and of what was lent
pub moved : {A : Type 0} (P : A → List ℕ → Type 0) {x y : A} (exit : List ℕ) → x ≡ y → P x exit → P y exit
moved P exit e p = subst (λ x. P x exit) e p

-- the numbers told of a value or of its refusal are those said of the answer
pub told_as : {T : Type 0} (said : Result T Refusal → List ℕ) (r : Result T Refusal) {x : List ℕ} → MatchResult r (λ t. x ≡ said (Ok t)) (λ e. x ≡ said (Err e)) → x ≡ said r
told_as _ (Ok _) p = p
told_as _ (Err _) p = p
