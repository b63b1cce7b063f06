-- What C is told of a report: the answers of the functions below, as numbers. Assumes nothing.
use Rattle.std.specs.Prelude.{ℕ, List}
use Rattle.told.specs.Told.{Told, four, refused}
use Rattle.month.specs.Report.{Added, AddIs, MergeIs}
use Rattle.std.specs.declared.option.Option.TheVariants.{Some, None}
use Rattle.std.specs.declared.result.Result.TheVariants.{Ok, Err}
use Rattle.std.specs.declared.result.Result.{Result}
use Rattle.calendar.specs.declared.Refusal.{Refusal}

-- 0, 0, and the product's own refusal with its place, or zeros; a refusal is 36
abbrev pub added_said : Added → List ℕ
added_said (Ok None) = four 0 0 0 0
added_said (Ok (Some r)) = four 0 0 r.number r.place
added_said (Err r) = refused 4 r

abbrev pub merged_said : Result Unit Refusal → List ℕ
merged_said (Ok _) = four 0 0 0 0
merged_said (Err r) = refused 4 r

-- the product a is added to the report x, which is y then
abbrev pub AddTold : List ℕ → List ℕ → List ℕ → List ℕ → Type 0
AddTold a x y numbers = Told (λ (r : Added). AddIs a x r y) added_said numbers

-- the report z is merged into x, which is y then
abbrev pub MergeTold : List ℕ → List ℕ → List ℕ → List ℕ → Type 0
MergeTold x z y numbers = Told (λ (r : Result Unit Refusal). MergeIs x z r y) merged_said numbers
