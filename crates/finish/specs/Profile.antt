-- THE FIRST RECORD AGAINST A PROFILE, and what the functions behind it ask and answer. What a profile lets through is said in crate judge. Assumes nothing.
use Rattle.std.specs.Prelude.{ℕ, ◌≡◌, cond, List, [], ◌∷◌}
use Rattle.judge.specs.Profile.{is_allowed}
use Rattle.finish.specs.Ahead.{Ahead}
use Rattle.std.specs.declared.option.Option.TheVariants.{Some, None}
use Rattle.std.specs.declared.option.Option.{Option}

-- of the records that start at the bytes l
abbrev pub first_against : List (List ℕ) → List ℕ → List ℕ → Option ℕ
first_against p a [] = None
first_against p a (i ∷ l) = cond (is_allowed p a i) (first_against p a l) (Some i)

-- records go from byte i to the end
pub record Going (a : List ℕ) (i : ℕ) : Type 0 where
  pub starts : List ℕ
  pub ahead : Ahead a i starts

-- r is `met` where the next place is the first after the main header, and else that place
pub record LeapIs (next met r : ℕ) : Type 0 where
  pub first : next ≡ 3307 → r ≡ met
  pub other : (next ≡ 3307 → ⊥) → r ≡ next

abbrev pub AgainstIs : List (List ℕ) → List ℕ → Option ℕ → Type 0
AgainstIs p a r = (l : List ℕ) → Ahead a 0 l → r ≡ first_against p a l
