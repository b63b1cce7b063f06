-- DETERMINED: no second answer, and no second room at exit, fits a promise of this crate. Each answer says one thing of the paper's and
-- is made again from it (`unsaid`); a writer's room is an equation. Assumes nothing.
use mathlib.Core.Path.{◌≡◌, refl}
use mathlib.Core.Bool.{Bool, ◌&&◌}
use mathlib.Core.List.{List}
use Prim.Native.Nat.{ℕ}
use Rattle.calendar.specs.Said.{Said, answer, refusal, refusing}
use Rattle.calendar.proofs.Determined.{fixes, only}
use Rattle.meter.specs.Lent.{inside}
use Rattle.std.specs.declared.result.Result.TheVariants.{Ok, Err}
use Rattle.std.specs.declared.option.Option.{Option}
use Rattle.std.specs.declared.result.Result.{Result}
use Rattle.calendar.specs.declared.Refusal.{Refusal}
use Rattle.std.specs.Prelude.{ℤ}
use Rattle.calendar.specs.Said.{said}
use Rattle.meter.proofs.Determined.{one_writing}
use Rattle.text.specs.Field.{is_value, number_read_at, count_at}
use Rattle.text.specs.Writing.{fits_number, put_number, fits_text, put_text, WritesNumber, WritesText}
use Rattle.text.specs.declared.Kind.{Kind}

abbrev unsaid_number : Said (Option ℤ) → Result (Option ℤ) Refusal
unsaid_number (answer x) = Ok x
unsaid_number (refusal n p) = Err (refusing n p)

number_unsaid : (r : Result (Option ℤ) Refusal) → unsaid_number (said r) ≡ r
number_unsaid (Ok x) = refl
number_unsaid (Err r) = refl

pub unique_is_value : (d : Kind) (a : List ℕ) (at w : ℕ) (r s : Bool) → r ≡ inside a at w && is_value d a at w → s ≡ inside a at w && is_value d a at w → r ≡ s
unique_is_value d a at w = only (inside a at w && is_value d a at w)

pub unique_read_number : (signed : Bool) (w : ℕ) (a : List ℕ) (at : ℕ) (r s : Result (Option ℤ) Refusal) → said r ≡ number_read_at signed w a at → said s ≡ number_read_at signed w a at → r ≡ s
unique_read_number signed w a at = fixes said unsaid_number number_unsaid (number_read_at signed w a at)

pub unique_count_at : (a : List ℕ) (at w r s : ℕ) → r ≡ count_at a at w → s ≡ count_at a at w → r ≡ s
unique_count_at a at w = only (count_at a at w)

pub unique_write_number : (room : List ℕ) (w : ℕ) (signed : Bool) (x : Option ℤ) (r s : Result ℕ Refusal) (p q : List ℕ) → WritesNumber room w signed x r p → WritesNumber room w signed x s q → (r ≡ s) × (p ≡ q)
unique_write_number room w signed x = one_writing room w (fits_number signed w x) (put_number w room x)

pub unique_write_text : (room : List ℕ) (w : ℕ) (t : List ℕ) (r s : Result ℕ Refusal) (p q : List ℕ) → WritesText room w t r p → WritesText room w t s q → (r ≡ s) × (p ≡ q)
unique_write_text room w t = one_writing room w (fits_text w t) (put_text room t)

pub unique_fits_number : (signed : Bool) (w : ℕ) (x : Option ℤ) (r s : Bool) → r ≡ fits_number signed w x → s ≡ fits_number signed w x → r ≡ s
unique_fits_number signed w x = only (fits_number signed w x)

pub unique_fits_text : (w : ℕ) (t : List ℕ) (r s : Bool) → r ≡ fits_text w t → s ≡ fits_text w t → r ≡ s
unique_fits_text w t = only (fits_text w t)
