-- What a host that is not Rattle is told: the lower function's answer, as numbers. The first number is 0, or the refusal's with its place after
-- it and zeros; then the values, what is undefined as a 0 before zeros (docs/DECISIONS.md, F9). Assumes nothing.
use Rattle.std.specs.Prelude.{ℕ, ◌-◌, ◌≡◌, List, [], ◌∷◌, replicate}
use Rattle.calendar.specs.declared.Refusal.{Refusal}
use Rattle.std.specs.declared.option.Option.TheVariants.{Some, None}
use Rattle.std.specs.declared.result.Result.TheVariants.{Ok, Err}
use Rattle.std.specs.declared.option.Option.{Option}
use Rattle.std.specs.declared.result.Result.{Result}
use Rattle.meter.specs.declared.time.Time.{Time}
use Rattle.meter.specs.declared.general.Moment.{Moment}
use Rattle.told.specs.declared.put.TimeWords.{TimeWords}

-- THE SHAPE of each promise: the numbers say an answer of the lower function that is right
pub record Told {A : Type 0} (Right : A → Type 0) (said : A → List ℕ) (numbers : List ℕ) : Type 0 where
  pub lower : A
  pub right : Right lower
  pub says : numbers ≡ said lower

-- a refusal, in an answer of w numbers: its number, its place, and zeros
abbrev pub refused : ℕ → Refusal → List ℕ
refused w r = r.number ∷ r.place ∷ replicate (w - 2) 0

abbrev pub four : ℕ → ℕ → ℕ → ℕ → List ℕ
four a b c d = a ∷ b ∷ c ∷ d ∷ []

abbrev pub six : ℕ → ℕ → ℕ → List ℕ
six a b c = 0 ∷ 0 ∷ a ∷ b ∷ c ∷ 0 ∷ []

-- one number
abbrev pub one4 : ℕ → List ℕ
one4 n = 0 ∷ 0 ∷ n ∷ 0 ∷ []

-- a day and millisecond
abbrev pub time6 : Option Time → List ℕ
time6 None = six 0 0 0
time6 (Some t) = six 1 t.day t.milli

-- a moment
abbrev pub moment12 : Moment → List ℕ
moment12 t = 0 ∷ 0 ∷ 1 ∷ t.date.year ∷ t.date.month ∷ t.date.day ∷ t.hour ∷ t.minute ∷ t.second ∷ t.milli ∷ 0 ∷ 0 ∷ []

abbrev pub general12 : Option Moment → List ℕ
general12 None = replicate 12 0
general12 (Some t) = moment12 t

-- a time among other numbers, as a flag, a day and a millisecond
abbrev pub time_words : Option Time → TimeWords
time_words None = record { defined = 0; day = 0; milli = 0 }
time_words (Some t) = record { defined = 1; day = t.day; milli = t.milli }

-- the bytes written
abbrev pub written_said : Result ℕ Refusal → List ℕ
written_said (Ok n) = one4 n
written_said (Err r) = refused 4 r
