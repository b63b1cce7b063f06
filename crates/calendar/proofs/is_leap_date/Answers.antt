-- `calendar::is_leap_date` meets its contract: a date that has a day number is asked by it, and no other has a leap second. Assumes nothing.
use Prim.Native.Nat.{ℕ}
use Rattle.calendar.specs.Said.{said}
use mathlib.Core.Path.{◌≡◌, refl, sym, ap, ◌∙◌}
use mathlib.Core.Bool.{Bool, true, false, cond, ◌&&◌}
use native.Mathlib.Omega.{arith}
use Rattle.calendar.specs.Said.{Said, answer, refusal, refused}
use Rattle.calendar.specs.declared.Refusal.{Refusal}
use Rattle.calendar.specs.Calendar.{days_to, has_day, leap_day, leap_date}
use Rattle.calendar.proofs.is_leap_date.Goals as goal

-- by whether the date has a day number
numbered : (b : Bool) (m n : ℕ) → ◌≡◌ {A = Said ℕ} (answer n) (cond b (answer m) (refusal 21 0)) → leap_day n ≡ b && leap_day m
numbered true m n e = let q : n ≡ m = cc in ap leap_day q
numbered false m n e = let z : ◌≡◌ {A = ℕ} 0 1 = cc in absurd (omega arith)

none : (b : Bool) (m : ℕ) (r : Refusal) → ◌≡◌ {A = Said ℕ} (refused r) (cond b (answer m) (refusal 21 0)) → false ≡ b && leap_day m
none true m r e = let z : ◌≡◌ {A = ℕ} 0 1 = cc in absurd (omega arith)
none false m r e = refl

pub returns-in-Ok : goal.returns-in-Ok
unfolding leap_date
returns-in-Ok c =
    let x = c.args.date in
    c.is_leap_day.ensures ∙ numbered (has_day x) (days_to x) c.in-Ok.n (sym (ap said c.in-Ok.is) ∙ c.day_number.ensures)

pub returns-in-Err : goal.returns-in-Err
unfolding leap_date
returns-in-Err c =
    let x = c.args.date in
    none (has_day x) (days_to x) _ (sym (ap said c.in-Err.is) ∙ c.day_number.ensures)
