-- DETERMINED: no second array of numbers, and no second lent buffer, fits a promise: the lower function's answer is one, and the numbers are said
-- of it. Assumes nothing.
use Prim.Native.Nat.{ℕ}
use mathlib.Core.Path.{◌≡◌, sym, ap, ◌∙◌}
use mathlib.Core.List.{List}
use lib.IntN.{ℤ}
use lib.Ieee.{Float}
use Rattle.calendar.specs.declared.Date.{Date}
use Rattle.meter.specs.General.{WritesTimeText}
use Rattle.meter.specs.Reading.{reading_of}
use Rattle.meter.specs.Scaled.{WritesScaled}
use Rattle.meter.specs.Time.{WritesTime}
use Rattle.std.specs.declared.option.Option.{Option}
use Rattle.std.specs.declared.result.Result.{Result}
use Rattle.calendar.specs.declared.Refusal.{Refusal}
use Rattle.meter.specs.declared.scaled.Reading.{Reading}
use Rattle.meter.specs.declared.time.Time.{Time}
use Rattle.meter.specs.declared.scaled.Scaled.{Scaled}
use Rattle.calendar.specs.Said.{said}
use Rattle.told.specs.Given.{is_set}
use Rattle.handheld.specs.Dates.{IsDateTold, DateTold, DayTold}
use Rattle.handheld.specs.Times.{TimeReadTold, TextTimeTold, OrderTold, WriteTimeTold, TimeTextTold}
use Rattle.handheld.specs.Scaled.{ScaledTold, WriteScaledTold, RoundedTold, shown_left, ReadingTold}
use Rattle.calendar.proofs.Determined as C
use Rattle.meter.proofs.Determined as M
use Rattle.told.proofs.Determined.{one_told, two_told}

-- ---- dates
pub unique_wl_is_date : (x : Date) (n m : List ℕ) → IsDateTold x n → IsDateTold x m → n ≡ m
unique_wl_is_date x n m = one_told (C.unique_is_date x)

pub unique_wl_date_of : (k : ℕ) (n m : List ℕ) → DateTold k n → DateTold k m → n ≡ m
unique_wl_date_of k n m = one_told (C.unique_date_of k)

pub unique_wl_day_number : (x : Date) (n m : List ℕ) → DayTold x n → DayTold x m → n ≡ m
unique_wl_day_number x n m = one_told (C.unique_day_number x)

-- ---- times and scaled numbers
pub unique_wl_read_time : (a : List ℕ) (at : ℕ) (n m : List ℕ) → TimeReadTold a at n → TimeReadTold a at m → n ≡ m
unique_wl_read_time a at n m = one_told (M.unique_read_time a at)

pub unique_wl_text_time : (a : List ℕ) (at : ℕ) (n m : List ℕ) → TextTimeTold a at n → TextTimeTold a at m → n ≡ m
unique_wl_text_time a at n m = one_told (M.unique_text_time a at)

pub unique_wl_time_order : (t u : Option Time) (n m : List ℕ) → OrderTold t u n → OrderTold t u m → n ≡ m
unique_wl_time_order t u n m = one_told (M.unique_time_order t u)

pub unique_wl_read_scaled : (a : List ℕ) (at width signed : ℕ) (n m : List ℕ) → ScaledTold a at width signed n → ScaledTold a at width signed m → n ≡ m
unique_wl_read_scaled a at width signed n m = one_told (M.unique_read_scaled (is_set signed) width a at)

pub unique_wl_round : (x : Option Scaled) (d : ℤ) (n m : List ℕ) → RoundedTold x d n → RoundedTold x d m → n ≡ m
unique_wl_round x d n m = one_told (M.unique_round_to x d)

pub unique_wl_reading : (x : Option Scaled) (old p q : Float) (n m : List ℕ) → ReadingTold x old p n → ReadingTold x old q m → (p ≡ q) × (n ≡ m)
unique_wl_reading x old p q n m =
    two_told (λ (new : Float) (r : Result Reading Refusal). (said r ≡ reading_of x) × (new ≡ shown_left old r)) p q
    (λ r s f g. let e = M.unique_reading_of x r s f.0 g.0 in (e, f.1 ∙ ap (shown_left old) e ∙ sym g.1))

-- ---- the writers
pub unique_wl_write_time : (room : List ℕ) (t : Option Time) (p q n m : List ℕ) → WriteTimeTold room t p n → WriteTimeTold room t q m → (p ≡ q) × (n ≡ m)
unique_wl_write_time room t p q n m = two_told (λ (e : List ℕ) (r : Result ℕ Refusal). WritesTime room t r e) p q (λ r s. M.unique_write_time room t r s p q)

pub unique_wl_time_text : (room : List ℕ) (t : Option Time) (p q n m : List ℕ) → TimeTextTold room t p n → TimeTextTold room t q m → (p ≡ q) × (n ≡ m)
unique_wl_time_text room t p q n m = two_told (λ (e : List ℕ) (r : Result ℕ Refusal). WritesTimeText room t r e) p q (λ r s. M.unique_time_text room t r s p q)

pub unique_wl_write_scaled : (room : List ℕ) (width signed : ℕ) (x : Option Scaled) (p q n m : List ℕ) → WriteScaledTold room width signed x p n → WriteScaledTold room width signed x q m → (p ≡ q) × (n ≡ m)
unique_wl_write_scaled room width signed x p q n m =
    two_told (λ (e : List ℕ) (r : Result ℕ Refusal). WritesScaled room (is_set signed) width x r e) p q (λ r s. M.unique_write_scaled room (is_set signed) width x r s p q)
