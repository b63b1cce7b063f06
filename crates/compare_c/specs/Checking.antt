-- What C is told of a cut that was checked: the answer of the function below, as numbers. Assumes nothing.
use Rattle.std.specs.Prelude.{ℕ, List}
use Rattle.told.specs.Told.{Told, four, refused}
use Rattle.std.specs.declared.option.Option.TheVariants.{Some, None}
use Rattle.std.specs.declared.result.Result.TheVariants.{Ok, Err}
use Rattle.std.specs.declared.option.Option.{Option}
use Rattle.std.specs.declared.result.Result.{Result}
use Rattle.calendar.specs.declared.Refusal.{Refusal}
use Rattle.compare.specs.Check.{CheckIs}

-- a refusal; 0, 0, 1, 0 for yes; 0, 0, 0, the place for no
abbrev pub checked_said : Result (Option ℕ) Refusal → List ℕ
checked_said (Err r) = refused 4 r
checked_said (Ok None) = four 0 0 1 0
checked_said (Ok (Some place)) = four 0 0 0 place

abbrev pub CheckTold : List ℕ → List ℕ → List ℕ → Type 0
CheckTold a b numbers = Told (λ (r : Result (Option ℕ) Refusal). CheckIs a b r) checked_said numbers
