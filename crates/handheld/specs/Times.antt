-- Times for hosts that are not Rattle: the promises of `meter`, told as numbers. Assumes nothing.
use Rattle.std.specs.Prelude.{ℕ, ◌≡◌, List}
use Rattle.meter.specs.Time.{time_read_at, compared, WritesTime}
use Rattle.meter.specs.General.{text_time_at, WritesTimeText}
use Rattle.std.specs.declared.result.Result.TheVariants.{Ok, Err}
use Rattle.std.specs.declared.cmp.Ordering.TheVariants.{Less, Equal, Greater}
use Rattle.std.specs.declared.option.Option.{Option}
use Rattle.std.specs.declared.result.Result.{Result}
use Rattle.std.specs.declared.cmp.Ordering.{Ordering}
use Rattle.calendar.specs.declared.Refusal.{Refusal}
use Rattle.meter.specs.declared.time.Time.{Time}
use Rattle.calendar.specs.Said.{said}
use Rattle.told.specs.Told.{Told, refused, one4, time6, written_said}

abbrev pub time_read_said : Result (Option Time) Refusal → List ℕ
time_read_said (Ok t) = time6 t
time_read_said (Err r) = refused 6 r

abbrev pub TimeReadTold : List ℕ → ℕ → List ℕ → Type 0
TimeReadTold a at numbers = Told (λ (r : Result (Option Time) Refusal). said r ≡ time_read_at a at) time_read_said numbers

abbrev pub TextTimeTold : List ℕ → ℕ → List ℕ → Type 0
TextTimeTold a at numbers = Told (λ (r : Result (Option Time) Refusal). said r ≡ text_time_at a at) time_read_said numbers

-- 0 before, 1 the same, 2 after
abbrev pub order_number : Ordering → ℕ
order_number Less = 0
order_number Equal = 1
order_number Greater = 2

abbrev pub order_said : Result Ordering Refusal → List ℕ
order_said (Ok o) = one4 (order_number o)
order_said (Err r) = refused 4 r

abbrev pub OrderTold : Option Time → Option Time → List ℕ → Type 0
OrderTold t u numbers = Told (λ (r : Result Ordering Refusal). said r ≡ compared t u) order_said numbers

-- the writers: the bytes written, and the room at exit
abbrev pub WriteTimeTold : List ℕ → Option Time → List ℕ → List ℕ → Type 0
WriteTimeTold room t exit numbers = Told (λ (r : Result ℕ Refusal). WritesTime room t r exit) written_said numbers

abbrev pub TimeTextTold : List ℕ → Option Time → List ℕ → List ℕ → Type 0
TimeTextTold room t exit numbers = Told (λ (r : Result ℕ Refusal). WritesTimeText room t r exit) written_said numbers
