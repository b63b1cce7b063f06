-- WHAT THE CUT ANSWERS (02, request Three: "An unfit input gives the judge's own refusal. Refusals: 25, window undefined or invalid or end before start,
-- place 0, checked first; then the judge's; 28, a size or total of the result over its field or over 4's limit, place 0; 18 last"). The result stands
-- at the start of the room and the rest is kept; a refusal writes nothing. Assumes nothing.
use Rattle.std.specs.Prelude.{ℕ, ◌+◌, ◌≤◌, ◌<◌, ◌≡◌, true, false, List, ◌++◌, length, drop}
use Rattle.calendar.specs.declared.Refusal.{Refusal}
use Rattle.std.specs.declared.result.Result.TheVariants.{Ok, Err}
use Rattle.std.specs.declared.result.Result.{Result}
use Rattle.finish.specs.Finish.{VerdictIs}
use Rattle.demands.specs.Product.{Meets}
use Rattle.parts.specs.Parts.{bytes}
use Rattle.parts.specs.Cut.{Window, is_window}
use Rattle.parts.specs.Rewritten.{Holdable}
use Rattle.parts.specs.TownCut.{cut_records, IsCut}

abbrev pub refused_at : ℕ → ℕ → Result ℕ Refusal
refused_at n p = Err (record { number = n; place = p })

-- how many bytes the cut of a product has
abbrev pub cut_size : (a : List ℕ) → Window → Meets a → ℕ
cut_size a w t = 3307 + bytes (cut_records a w t)

-- of the bytes a, the window w and a room: the answer, and the room at exit; "The result is accepted": it meets the format
pub data CutIs (a : List ℕ) (w : Window) (room : List ℕ) : Result ℕ Refusal → List ℕ → Type 0 where
  no_window : is_window w ≡ false → CutIs a w room (refused_at 25 0) room
  unfit : (r : Refusal) → is_window w ≡ true → VerdictIs a (Err r) → CutIs a w room (Err r) room
  too_much : (t : Meets a) → is_window w ≡ true → (Holdable (cut_records a w t) → ⊥) → CutIs a w room (refused_at 28 0) room
  no_room : (t : Meets a) → is_window w ≡ true → Holdable (cut_records a w t) → length room < cut_size a w t → CutIs a w room (refused_at 18 (cut_size a w t)) room
  written :
      (t : Meets a) (b : List ℕ) → is_window w ≡ true → Holdable (cut_records a w t) → cut_size a w t ≤ length room → IsCut a w b → Meets b
      → CutIs a w room (Ok (cut_size a w t)) (b ++ drop (cut_size a w t) room)

-- WHAT WAS WRITTEN, of n bytes: the cut, and then what the room held
pub record CutResult (a : List ℕ) (w : Window) (room : List ℕ) (n : ℕ) (exit : List ℕ) : Type 0 where
  pub text : List ℕ
  pub cut : IsCut a w text
  pub product : Meets text
  pub holdable : Holdable (cut_records a w cut.product)
  pub long : n ≡ cut_size a w cut.product
  pub fits : n ≤ length room
  pub stands : exit ≡ text ++ drop n room
