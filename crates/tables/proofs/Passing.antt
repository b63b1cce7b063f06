-- What a table's silence says: a test that no row refuses passes, and what can be decided and is not denied holds. Assumes nothing.
use mathlib.Core.Path.{◌≡◌, refl, sym, ◌∙◌}
use mathlib.Core.Bool.{Bool, true, false, true≢false}

pub holds : {P : Type 0} → Dec P → ((P → ⊥) → ⊥) → P
holds (yes p) n = p
holds (no m) n = absurd (n m)

pub passes : (b : Bool) → (b ≡ false → ⊥) → b ≡ true
passes true n = refl
passes false n = absurd (n refl)

-- a test came out one way
pub clash : {b : Bool} → b ≡ true → b ≡ false → ⊥
clash t f = true≢false (sym t ∙ f)
