-- What is known of a cut before a byte of it is written. What a function between two steps asks and promises. Assumes nothing.
use Rattle.std.specs.Prelude.{ℕ, ◌≡◌, true, length}
use mathlib.Core.List.{List, Memᴰ as In}
use Rattle.std.proofs.lemmas.List.Edits.{sets}
use Rattle.demands.specs.Product.{Meets}
use Rattle.parts.specs.Parts.{bytes, bytes_of, main_of, records_at}
use Rattle.parts.specs.Only.{only, is_sphr}
use Rattle.parts.specs.Kinds.{Kinded}
use Rattle.parts.specs.Cut.{Window, is_window, is_chosen, is_kept}
use Rattle.parts.specs.CutHeader.{first_start, last_stop, cut_values}
use Rattle.parts.specs.Rewritten.{Rewritten}
use Rattle.parts.specs.TownCut.{cut_records}
use Rattle.rewrite.specs.declared.survey.Sums.{Sums}
use Rattle.rewrite.specs.Table.{Holds}
use Rattle.rewrite.specs.Assembling.{Planned}

-- all that the writing rests on, for the product a
pub record CutPlanned (a : List ℕ) (w : Window) (table totals : List ℕ) (at size : ℕ) (v : Sums) (room : List ℕ) : Type 0 where
  pub product : Meets a
  pub holds : Holds (only (is_kept w) (records_at a product.list)) table v.kept
  pub kinded : (r : List ℕ) → In r (only (is_kept w) (records_at a product.list)) → Kinded r
  pub front : v.front ≡ bytes (only is_sphr (records_at a product.list))
  pub first : v.start ≡ first_start (only (is_chosen w) (records_at a product.list))
  pub last : v.stop ≡ last_stop (only (is_chosen w) (records_at a product.list))
  pub planned : Planned (main_of a) (only is_sphr (records_at a product.list)) (only (is_kept w) (records_at a product.list)) (length room) at size totals

-- a header of the cut, and with it the cut stands at the start of the room
pub record PutsCut (a : List ℕ) (w : Window) (room exit : List ℕ) : Type 0 where
  pub product : Meets a
  pub header : List ℕ
  pub lines : Rewritten (main_of a) header (cut_values (main_of a) w (records_at a product.list))
  pub put : exit ≡ sets room 0 (bytes_of header (cut_records a w product))

-- a product and a window
pub record Cuttable (a : List ℕ) (w : Window) : Type 0 where
  pub product : Meets a
  pub windowed : is_window w ≡ true
