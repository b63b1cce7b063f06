-- What C is told of a humidity file: the answer of the function below, as numbers. Assumes nothing.
use Rattle.std.specs.Prelude.{ℕ, List, Float}
use Rattle.told.specs.Told.{Told, one4, refused}
use Rattle.uth.specs.Blocks.{ReadsUth}
use Rattle.std.specs.declared.result.Result.TheVariants.{Ok, Err}
use Rattle.std.specs.declared.result.Result.{Result}
use Rattle.calendar.specs.declared.Refusal.{Refusal}

-- how many blocks
abbrev pub count_said : Result ℕ Refusal → List ℕ
count_said (Ok n) = one4 n
count_said (Err r) = refused 4 r

-- the file read into both rooms
abbrev pub UthTold : List ℕ → List (List ℕ) → List (List Float) → List (List ℕ) → List (List Float) → List ℕ → Type 0
UthTold a rows pairs rows' pairs' numbers = Told (λ (r : Result ℕ Refusal). ReadsUth a rows pairs r rows' pairs') count_said numbers
