-- THE VERDICT'S SHARE of what is said of the finished judge: it accepts exactly the products, with the number of their records; a refusal of an arrival is
-- its refusal of every longer one; and what it and the row lister answer, each by its own promise, is what the two answer in turn. By the table's laws and
-- by the verdict's being one. Assumes nothing.
use Prim.Native.Nat.{ℕ, suc}
use mathlib.Core.Path.{◌≡◌, ap, subst}
use mathlib.Core.List.{List, ◌++◌}
use lib.ListN.{length}
use Rattle.calendar.specs.declared.Refusal.{Refusal}
use Rattle.tables.proofs.Laws.{stays_refused}
use Rattle.judge.specs.Table.{table, Judged}
use Rattle.judge.specs.Extent.{ExtentIs}
use Rattle.judge.specs.declared.arrival.Arrival.TheVariants as A
use Rattle.std.specs.declared.result.Result.TheVariants.{Ok, Err}
use Rattle.std.specs.declared.option.Option.{Option}
use Rattle.std.specs.declared.result.Result.{Result}
use Rattle.judge.proofs.Local.{lawful}
use Rattle.finish.specs.Finish.{VerdictIs, FinishedIs, InTurn}
use Rattle.finish.specs.Finish as F
use Rattle.finish.proofs.InTurn.{finished_turn}
use Rattle.demands.specs.Product.{Meets}
use Rattle.demands.proofs.Accepted.{covers, complete_is_product, meets_fit, unique_extent, unique_verdict}

-- ---- DEMAND 2
pub verdict_product : (a : List ℕ) (c : ℕ) → VerdictIs a (Ok c) → (m : Meets a) × (c ≡ suc (length m.list))
verdict_product a c (k, v) = let m = complete_is_product k in (m, (covers m v).0)

pub product_verdict : (a : List ℕ) (m : Meets a) (r : Result ℕ Refusal) → VerdictIs a r → r ≡ Ok (suc (length m.list))
product_verdict a m (Ok c) (k, v) = ap Ok (covers m v).0
product_verdict a m (Err r) g = absurd (meets_fit m r g)

-- ---- DEMAND 3
pub final_verdict : (a t : List ℕ) (r : Refusal) → Judged a (A.Refused r) → (s : Result ℕ Refusal) → VerdictIs (a ++ t) s → s ≡ Err r
final_verdict a t r g s v = unique_verdict (a ++ t) s (Err r) v (F.faulty (stays_refused table lawful a t g))

pub final_extent : (a t : List ℕ) (r : Refusal) → Judged a (A.Refused r) → (s : Result (Option ℕ) Refusal) → ExtentIs (a ++ t) s → s ≡ Err r
final_extent a t r g s v = unique_extent (a ++ t) s (Err r) v (stays_refused table lawful a t g)

-- ---- REQUEST FOURTEEN: whatever the verdict answered and the lister then did, they did in turn
pub in_turn : (a : List ℕ) (rows : List (List ℕ)) (v r : Result ℕ Refusal) (rows' : List (List ℕ)) → VerdictIs a v → FinishedIs a rows r rows' → InTurn a rows v r rows'
in_turn a rows v r rows' g f =
    let t = finished_turn a rows r rows' f in
    subst (λ (w : Result ℕ Refusal). InTurn a rows w r rows') (unique_verdict a t.said v t.verdict g) t.turn
