-- The judges, the record query and the listing for hosts that are not Rattle: the promises of `judge`, `query` and `listing`, told as numbers.
-- Assumes nothing.
use Rattle.std.specs.Prelude.{ℕ, List, [], ◌∷◌}
use Rattle.judge.specs.Table.{Judged}
use Rattle.finish.specs.Finish.{VerdictIs, FinishedIs}
use Rattle.level0.specs.Profile.{Level0Is}
use Rattle.judge.specs.declared.arrival.Arrival.{Arrival}
use Rattle.judge.specs.declared.arrival.Arrival.TheVariants as A
use Rattle.judge.specs.Extent.{ExtentIs}
use Rattle.std.specs.declared.option.Option.TheVariants.{Some, None}
use Rattle.std.specs.declared.result.Result.TheVariants.{Ok, Err}
use Rattle.std.specs.declared.option.Option.{Option}
use Rattle.std.specs.declared.result.Result.{Result}
use Rattle.calendar.specs.declared.Refusal.{Refusal}
use Rattle.query.specs.declared.Record.{Record}
use Rattle.query.specs.Found.{record_found}
use Rattle.query.specs.Query.{RecordIs}
use Rattle.listing.specs.Listing.{ListedIs}
use Rattle.told.specs.Told.{Told, four, refused, one4}
use Rattle.warpladle.specs.Values.{header16}

-- waiting: the end of the last whole record, and the count
abbrev pub arrival_said : Arrival → List ℕ
arrival_said (A.Waiting c e) = 0 ∷ e ∷ c ∷ 0 ∷ []
arrival_said (A.Refused r) = refused 4 r

abbrev pub ArrivalTold : List ℕ → List ℕ → Type 0
ArrivalTold a numbers = Told (Judged a) arrival_said numbers

-- a part has come; or all of it: 1, and the count
abbrev pub extent_said : Result (Option ℕ) Refusal → List ℕ
extent_said (Ok None) = four 0 0 0 0
extent_said (Ok (Some c)) = four 0 0 1 c
extent_said (Err r) = refused 4 r

abbrev pub ExtentTold : List ℕ → List ℕ → Type 0
ExtentTold a numbers = Told (ExtentIs a) extent_said numbers

-- accepted: the count
abbrev pub finished_said : Result ℕ Refusal → List ℕ
finished_said (Ok c) = one4 c
finished_said (Err r) = refused 4 r

abbrev pub VerdictTold : List ℕ → List ℕ → Type 0
VerdictTold a numbers = Told (VerdictIs a) finished_said numbers

-- the lent rows have become rows'
abbrev pub FinishedTold : List ℕ → List (List ℕ) → List (List ℕ) → List ℕ → Type 0
FinishedTold a rows rows' numbers = Told (λ (r : Result ℕ Refusal). FinishedIs a rows r rows') finished_said numbers

abbrev pub Level0Told : List ℕ → List (List ℕ) → List (List ℕ) → List ℕ → Type 0
Level0Told a rows rows' numbers = Told (λ (r : Result ℕ Refusal). Level0Is a rows r rows') finished_said numbers

-- the record's start and header
abbrev pub record_said : Result Record Refusal → List ℕ
record_said (Ok t) = header16 t.start t.header
record_said (Err r) = refused 16 r

abbrev pub RecordTold : List ℕ → ℕ → List ℕ → Type 0
RecordTold a k numbers = Told (RecordIs a k) record_said numbers

-- listed: the bytes written
abbrev pub listed_said : Result ℕ Refusal → List ℕ
listed_said (Ok n) = one4 n
listed_said (Err r) = refused 4 r

-- the room has become exit
abbrev pub ListingTold : List ℕ → List ℕ → List ℕ → List ℕ → Type 0
ListingTold a room exit numbers = Told (λ (r : Result ℕ Refusal). ListedIs a room r exit) listed_said numbers
