-- The line of a refusal: how many bytes it has, and what its parts are. Assumes nothing.
use Prim.Native.Nat.{ℕ, ◌+◌, ◌<◌}
use native.Mathlib.Omega.{arith}
use mathlib.Core.Path.{◌≡◌, refl, ap}
use mathlib.Core.List.{List, ◌++◌}
use lib.ListN.{length, length-append}
use Rattle.calendar.specs.declared.Refusal.{Refusal}
use Rattle.calendar.specs.Said.{refusing}
use Rattle.listing.specs.Decimal.{decimal, column, Puts}
use Rattle.listing.specs.Listing.{refusal_line, LineIs}
use Rattle.std.specs.declared.result.Result.{Result}
use Rattle.listing.proofs.ColumnLaws.{column_length}
use Rattle.listing.proofs.WalkLaws.{width_at}

pub line_bytes : (x : Refusal) {w p q : ℕ} → w ≡ x.number → p ≡ length (decimal w) → q ≡ length (decimal x.place) → 10 + p + q ≡ length (refusal_line x)
line_bytes x e f g =
    omega (arith, width_at f e, g, length-append (column x.number 32) (column x.place 10), column_length x.number 32, column_length x.place 10)

pub head_at : (word : List ℕ) (b : ℕ) {room exit : List ℕ} {i r x v : ℕ} → x ≡ v → Puts room i (word ++ column x b) r exit → Puts room i (word ++ column v b) r exit
head_at word b e f = rw e at f
