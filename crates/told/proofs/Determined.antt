-- DETERMINED: no second array of numbers, and no second lent buffer, fits a promise of the shape `Told`: the lower function's answer is one, and the
-- numbers are said of it. (The promises of this crate's own functions are equations: `only` of `calendar` fixes each.) Assumes nothing.
use Prim.Native.Nat.{ℕ}
use mathlib.Core.Path.{◌≡◌, sym, ap, ◌∙◌}
use mathlib.Core.List.{List}
use Rattle.told.specs.Told.{Told}

-- of an answer that is one the numbers are
pub one_told : {A : Type 0} {Right : A → Type 0} {said : A → List ℕ} {n m : List ℕ} → ((r s : A) → Right r → Right s → r ≡ s) → Told Right said n → Told Right said m → n ≡ m
one_told {said = said} one t u = t.says ∙ ap said (one t.lower u.lower t.right u.right) ∙ sym u.says

-- and of one that comes with what was lent, both are
pub two_told : {A : Type 0} {X : Type 0} (Right : X → A → Type 0) {said : A → List ℕ} (x y : X) {n m : List ℕ} → ((r s : A) → Right x r → Right y s → (r ≡ s) × (x ≡ y)) → Told (Right x) said n → Told (Right y) said m → (x ≡ y) × (n ≡ m)
two_told Right {said} x y one t u = let e = one t.lower u.lower t.right u.right in (e.1, t.says ∙ ap said e.0 ∙ sym u.says)
