-- DETERMINED: no second array of numbers, and no second room at exit, fits the promise: the reader's answer and its rooms are one, and the numbers are
-- said of it. Assumes nothing.
use Prim.Native.Nat.{ℕ}
use mathlib.Core.Path.{◌≡◌, sym, ap, ◌∙◌}
use mathlib.Core.List.{List}
use lib.Ieee.{Float}
use Rattle.uth.proofs.Determined.{unique_read_uth}
use Rattle.uth_c.specs.Humidity.{count_said, UthTold}

pub unique_wl_uth : (a : List ℕ) (rows : List (List ℕ)) (pairs : List (List Float)) (p q : List (List ℕ)) (u v : List (List Float)) (n m : List ℕ) → UthTold a rows pairs p u n → UthTold a rows pairs q v m → (p ≡ q) × (u ≡ v) × (n ≡ m)
unique_wl_uth a rows pairs p q u v n m t s =
    let e = unique_read_uth a rows pairs t.lower s.lower p q u v t.right s.right in
    (e.1, e.2, t.says ∙ ap count_said e.0 ∙ sym s.says)
