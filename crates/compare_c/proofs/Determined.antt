-- DETERMINED: no second array of numbers fits the promise: the answer below is one, and the numbers are said of it. Assumes nothing.
use Prim.Native.Nat.{ℕ}
use mathlib.Core.Path.{◌≡◌}
use mathlib.Core.List.{List}
use Rattle.told.proofs.Determined.{one_told}
use Rattle.compare.proofs.CheckLaws.{unique_check}
use Rattle.compare_c.specs.Checking.{CheckTold}

pub unique_wl_check_cut : (a b n m : List ℕ) → CheckTold a b n → CheckTold a b m → n ≡ m
unique_wl_check_cut a b n m = one_told (unique_check a b)
