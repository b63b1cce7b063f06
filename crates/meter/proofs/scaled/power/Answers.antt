-- `meter::scaled::power` meets its contract: the table is computed, one test over its sixteen places. Assumes nothing.
use Rattle.calendar.proofs.Range.{at}
use lib.ListN.{get_or}
use lib.Dec.{eqb, eqb→eq}
use Prim.Native.Nat.{ℕ, ◌^◌}
use mathlib.Core.List.{List, [], ◌∷◌}
use mathlib.Core.Bool.{Bool}
use borrow.Author.Rules.{rules}
use Rattle.meter.proofs.scaled.power.Goals as goal

powers : List ℕ
powers =
    1 ∷ 10 ∷ 100 ∷ 1000 ∷ 10000 ∷ 100000 ∷ 1000000 ∷ 10000000 ∷ 100000000 ∷ 1000000000 ∷ 10000000000 ∷ 100000000000 ∷ 1000000000000 ∷ 10000000000000
    ∷ 100000000000000 ∷ 1000000000000000 ∷ []

right : ℕ → Bool
right k = eqb (get_or powers k 0) (10 ^ k)

pub returns : goal.returns
unfolding powers right
returns c = eqb→eq (get_or powers c.args.exponent 0) (10 ^ c.args.exponent) (at right 16 tt c.args.exponent (search rules))
