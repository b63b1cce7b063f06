-- DETERMINED: no second array of numbers, and no second room at exit, fits a promise: the answer below is one, and the numbers are said of it.
-- Assumes nothing.
use Prim.Native.Nat.{ℕ}
use mathlib.Core.Path.{◌≡◌}
use mathlib.Core.Bool.{Bool}
use mathlib.Core.List.{List}
use Rattle.std.specs.declared.option.Option.{Option}
use Rattle.std.specs.declared.result.Result.{Result}
use Rattle.calendar.specs.declared.Refusal.{Refusal}
use Rattle.meter.specs.declared.time.Time.{Time}
use Rattle.parts.specs.Cut.{window}
use Rattle.rewrite.specs.Cut.{CutIs}
use Rattle.rewrite.specs.Join.{JoinIs}
use Rattle.rewrite.proofs.Laws.{unique_cut}
use Rattle.rewrite.proofs.JoinLaws.{unique_join}
use Rattle.told.proofs.Determined.{two_told}
use Rattle.rewrite_c.specs.Rewriting.{CutTold, JoinTold}

pub unique_wl_cut : (a : List ℕ) (t u : Option Time) (room p q n m : List ℕ) → CutTold a t u room p n → CutTold a t u room q m → (p ≡ q) × (n ≡ m)
unique_wl_cut a t u room p q n m = two_told (λ (e : List ℕ) (r : Result ℕ Refusal). CutIs a (window t u) room r e) p q (λ r s. unique_cut a (window t u) room r s p q)

pub unique_wl_join : {i : Bool} (a b room p q n m : List ℕ) → JoinTold i a b room p n → JoinTold i a b room q m → (p ≡ q) × (n ≡ m)
unique_wl_join {i} a b room p q n m = two_told (λ (e : List ℕ) (r : Result ℕ Refusal). JoinIs i a b room r e) p q (λ r s. unique_join a b room r s p q)
