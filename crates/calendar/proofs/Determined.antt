-- Each promise fixes its answer: two answers that keep it are the same. A promise says what an answer says, and an answer is read back from what it says.
-- By reading both answers back from the same sayings.
-- Assumes nothing.
use mathlib.Core.Path.{◌≡◌, refl, sym, ap, ◌∙◌}
use mathlib.Core.Bool.{Bool}
use Prim.Native.Nat.{ℕ}
use Rattle.calendar.specs.declared.Date.{Date}
use Rattle.std.specs.declared.result.Result.TheVariants.{Ok, Err}
use Rattle.std.specs.declared.result.Result.{Result}
use Rattle.calendar.specs.declared.Refusal.{Refusal}
use Rattle.calendar.specs.Said.{said}
use Rattle.calendar.specs.Said.{Said, answer, refusal, refusing}
use Rattle.calendar.specs.Calendar.{is_date, leap_day, leap_date, date_of, day_number_of}

pub fixes : {R A : Type 0} (said : R → Said A) (unsaid : Said A → R) → ((r : R) → unsaid (said r) ≡ r) → (x : Said A) (r s : R) → said r ≡ x → said s ≡ x → r ≡ s
fixes said unsaid back x r s p q = sym (back r) ∙ ap unsaid (p ∙ sym q) ∙ back s

pub only : {A : Type 0} (x r s : A) → r ≡ x → s ≡ x → r ≡ s
only x r s p q = p ∙ sym q

abbrev pub unsaid_day : Said ℕ → Result ℕ Refusal
unsaid_day (answer n) = Ok n
unsaid_day (refusal n p) = Err (refusing n p)

pub day_unsaid : (r : Result ℕ Refusal) → unsaid_day (said r) ≡ r
day_unsaid (Ok n) = refl
day_unsaid (Err r) = refl

pub unique_day_number : (x : Date) (r s : Result ℕ Refusal) → said r ≡ day_number_of x → said s ≡ day_number_of x → r ≡ s
unique_day_number x r s p q = fixes said unsaid_day day_unsaid (day_number_of x) r s p q

pub unique_is_date : (x : Date) (r s : Bool) → r ≡ is_date x → s ≡ is_date x → r ≡ s
unique_is_date x r s p q = only (is_date x) r s p q

pub unique_is_leap_day : (n : ℕ) (r s : Bool) → r ≡ leap_day n → s ≡ leap_day n → r ≡ s
unique_is_leap_day n r s p q = only (leap_day n) r s p q

pub unique_is_leap_date : (x : Date) (r s : Bool) → r ≡ leap_date x → s ≡ leap_date x → r ≡ s
unique_is_leap_date x r s p q = only (leap_date x) r s p q

pub unique_date_of : (n : ℕ) (r s : Date) → r ≡ date_of n → s ≡ date_of n → r ≡ s
unique_date_of n r s p q = only (date_of n) r s p q
