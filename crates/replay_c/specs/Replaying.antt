-- What C is told of an arrival that was replayed or recorded: the answer of the function below, as numbers. Assumes nothing.
use Rattle.std.specs.Prelude.{ℕ, List}
use Rattle.std.specs.declared.option.Option.TheVariants.{Some, None}
use Rattle.std.specs.declared.result.Result.TheVariants.{Ok, Err}
use Rattle.std.specs.declared.option.Option.{Option}
use Rattle.std.specs.declared.result.Result.{Result}
use Rattle.calendar.specs.declared.Refusal.{Refusal}
use Rattle.told.specs.Told.{Told, four, refused, written_said}
use Rattle.replay.specs.Replay.{ReplayIs}
use Rattle.replay.specs.Record.{RecordIs}

-- a refusal; zeros for none; 0, 0, 1, the part for one that differs
abbrev pub replayed_said : Result (Option ℕ) Refusal → List ℕ
replayed_said (Err r) = refused 4 r
replayed_said (Ok None) = four 0 0 0 0
replayed_said (Ok (Some part)) = four 0 0 1 part

abbrev pub ReplayTold : List ℕ → List ℕ → List ℕ → Type 0
ReplayTold r b numbers = Told (λ (x : Result (Option ℕ) Refusal). ReplayIs r b x) replayed_said numbers

-- the record of the product b in parts of the lengths ls: the bytes written, and the room at exit
abbrev pub RecordTold : List ℕ → List ℕ → List ℕ → List ℕ → List ℕ → Type 0
RecordTold ls b room exit numbers = Told (λ (x : Result ℕ Refusal). RecordIs ls b room x exit) written_said numbers
