-- DETERMINED: no second array of numbers, and no second report at exit, fits a promise: the answer below and its report are one, and the numbers are said
-- of it. Assumes nothing.
use Prim.Native.Nat.{ℕ}
use mathlib.Core.Path.{◌≡◌, sym, ap, ◌∙◌}
use mathlib.Core.List.{List}
use Rattle.month.proofs.ReportLaws.{unique_add, unique_merge}
use Rattle.month_c.specs.Reporting.{added_said, merged_said, AddTold, MergeTold}

pub unique_wl_report_add : (a x y z n m : List ℕ) → AddTold a x y n → AddTold a x z m → (y ≡ z) × (n ≡ m)
unique_wl_report_add a x y z n m t s =
    let e = unique_add a x t.lower s.lower y z t.right s.right in
    (e.1, t.says ∙ ap added_said e.0 ∙ sym s.says)

pub unique_wl_report_merge : (x w y z n m : List ℕ) → MergeTold x w y n → MergeTold x w z m → (y ≡ z) × (n ≡ m)
unique_wl_report_merge x w y z n m t s =
    let e = unique_merge x w t.lower s.lower y z t.right s.right in
    (e.1, t.says ∙ ap merged_said e.0 ∙ sym s.says)
