-- What C is told of a product that was written from another: the answer of the function below, as numbers. Assumes nothing.
use Rattle.std.specs.Prelude.{ℕ, Bool, List}
use Rattle.std.specs.declared.option.Option.{Option}
use Rattle.std.specs.declared.result.Result.{Result}
use Rattle.calendar.specs.declared.Refusal.{Refusal}
use Rattle.meter.specs.declared.time.Time.{Time}
use Rattle.told.specs.Told.{Told, written_said}
use Rattle.parts.specs.Cut.{window}
use Rattle.rewrite.specs.Cut.{CutIs}
use Rattle.rewrite.specs.Join.{JoinIs}

-- the cut by the window from t to u: the bytes written, and the room at exit
abbrev pub CutTold : List ℕ → Option Time → Option Time → List ℕ → List ℕ → List ℕ → Type 0
CutTold a t u room exit numbers = Told (λ (r : Result ℕ Refusal). CutIs a (window t u) room r exit) written_said numbers

-- the join of two, i is which of the two joins it is: the bytes written, and the room at exit
abbrev pub JoinTold : Bool → List ℕ → List ℕ → List ℕ → List ℕ → List ℕ → Type 0
JoinTold i a b room exit numbers = Told (λ (r : Result ℕ Refusal). JoinIs i a b room r exit) written_said numbers
