-- DETERMINED: no second array of numbers, and no second room at exit, fits a promise: the answer below is one, and the numbers are said of it.
-- Assumes nothing.
use Prim.Native.Nat.{ℕ}
use mathlib.Core.Path.{◌≡◌}
use mathlib.Core.List.{List}
use Rattle.std.specs.declared.result.Result.{Result}
use Rattle.calendar.specs.declared.Refusal.{Refusal}
use Rattle.told.proofs.Determined.{one_told, two_told}
use Rattle.replay.specs.Record.{RecordIs}
use Rattle.replay.proofs.ReplayLaws.{unique_replay, unique_record}
use Rattle.replay_c.specs.Replaying.{ReplayTold, RecordTold}

pub unique_wl_replay : (r b n m : List ℕ) → ReplayTold r b n → ReplayTold r b m → n ≡ m
unique_wl_replay r b n m = one_told (unique_replay r b)

pub unique_wl_record_arrival : (ls b room p q n m : List ℕ) → RecordTold ls b room p n → RecordTold ls b room q m → (p ≡ q) × (n ≡ m)
unique_wl_record_arrival ls b room p q n m = two_told (λ (e : List ℕ) (x : Result ℕ Refusal). RecordIs ls b room x e) p q (λ x y. unique_record ls b room x y p q)
