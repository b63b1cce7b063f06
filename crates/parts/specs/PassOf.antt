-- A PASS OF MANY GRANULES (02, request Seven: "Join granules into a pass"; "Where both ways of joining three products are accepted, the bytes are the
-- same"): what joining a list of products comes to, told by the list alone and not by which two were joined first. Each product by its parts. Assumes
-- nothing.
use Rattle.std.specs.Prelude.{ℕ, ◌+◌, ◌≡◌, Bool, false, cond, ◌||◌, List, [], ◌∷◌, ◌++◌, pos}
use Rattle.meter.specs.General.{number_of}
use Rattle.text.specs.Field.{is_x}
use Rattle.std.specs.declared.option.Option.TheVariants.{Some, None}
use Rattle.std.specs.declared.option.Option.{Option}
use Rattle.std.specs.Prelude.{ℤ}
use Rattle.mphr.specs.Layout.{width_of, line_start}
use Rattle.parts.specs.Parts.{bytes_of}
use Rattle.parts.specs.Only.{only, is_sphr, is_global, is_variable, is_mdr}
use Rattle.parts.specs.Pointers.{assembled}
use Rattle.parts.specs.Rewritten.{value_of, Value, text, number, copied, Rewritten, Anew, anew, values_of, count_lines}
use Rattle.parts.specs.JoinHeader.{ended_as}

-- a product: its main header and the records after it
pub record Granule : Type 0 where
  pub main : List ℕ
  pub records : List (List ℕ)

abbrev pub granule : List ℕ → List (List ℕ) → Granule
granule m rs = record { main = m; records = rs }

-- the main header and the records of the first
abbrev pub first_main : List Granule → List ℕ
first_main [] = []
first_main (g ∷ gs) = g.main

abbrev pub first_records : List Granule → List (List ℕ)
first_records [] = []
first_records (g ∷ gs) = g.records

-- the main header of the last, or m where there is none
abbrev pub last_main : List ℕ → List Granule → List ℕ
last_main m [] = m
last_main m (g ∷ gs) = last_main g.main gs

-- of each product, one after the other, the records that pass the test
abbrev pub every_of : (List ℕ → Bool) → List Granule → List (List ℕ)
every_of f [] = []
every_of f (g ∷ gs) = only f g.records ++ every_of f gs

-- one of the numbers of line k is undefined; their sum
abbrev pub undefined_in : ℕ → List Granule → Bool
undefined_in k [] = false
undefined_in k (g ∷ gs) = is_x g.main (line_start k + 32) (width_of k) || undefined_in k gs

abbrev pub sum_in : ℕ → List Granule → ℕ
sum_in k [] = 0
sum_in k (g ∷ gs) = number_of g.main (line_start k + 32) (width_of k) + sum_in k gs

-- "Counts and durations add, `x` absorbing"
abbrev pub added_up : List Granule → ℕ → Option ℤ
added_up gs k = cond (undefined_in k gs) None (Some (pos (sum_in k gs)))

-- THE RECORDS: the SPHR and global records of the first, the variable records and then the MDRs of all, and the pointers
abbrev pub pass_parts : List Granule → List (List ℕ)
pass_parts gs = assembled (first_main gs) (only is_sphr (first_records gs)) (only is_global (first_records gs) ++ (every_of is_variable gs ++ every_of is_mdr gs))

-- THE LINES, but for the size and the totals: "the end time and the name's end time come from" the last, "all else from the first"
abbrev pub pass_lines : List Granule → List Anew
pass_lines gs =
    anew 0 (text (ended_as (value_of (first_main gs) 0) (value_of (last_main [] gs) 0)))
    ∷ anew 11 (copied (value_of (last_main [] gs) 11))
    ∷ anew 64 (number (added_up gs 64))
    ∷ anew 65 (number (added_up gs 65))
    ∷ anew 66 (number (added_up gs 66))
    ∷ anew 67 (number (added_up gs 67))
    ∷ anew 68 (number (added_up gs 68))
    ∷ anew 69 (number (added_up gs 69))
    ∷ anew 70 (number (added_up gs 70))
    ∷ []

abbrev pub pass_values : List Granule → ℕ → Value
pass_values gs = values_of (count_lines (pass_parts gs) (pass_lines gs))

-- c IS THE PASS of the products gs
pub record IsPass (gs : List Granule) (c : List ℕ) : Type 0 where
  pub header : List ℕ
  pub lines : Rewritten (first_main gs) header (pass_values gs)
  pub whole : c ≡ bytes_of header (pass_parts gs)
