-- DEMAND 3, THE PREFIX LAW: a fault that is shown at k depends on the first k bytes alone. So a refusal stays for every longer arrival and for the
-- finished product; a fault is given at the shortest arrival that shows it and at none before; and one answer at most is right.
-- By the laws of every table (`tables`) and the judge's locality. Assumes nothing.
use Prim.Native.Nat.{ℕ}
use mathlib.Core.Path.{◌≡◌, ap}
use mathlib.Core.List.{List, ◌++◌}
use lib.ListN.{length}
use Rattle.calendar.specs.Said.{refusing}
use Rattle.tables.proofs.Laws.{not_clean}
use Rattle.tables.proofs.Laws as L
use Rattle.mphr.proofs.Prefix.{same_refusal}
use Rattle.judge.specs.Table.{table, Given, Judged}
use Rattle.finish.specs.Finish.{Refuses, faulty, short, no_room, FinishedIs, refused_with}
use Rattle.judge.specs.declared.arrival.Arrival.{Arrival}
use Rattle.judge.specs.declared.arrival.Arrival.TheVariants.{Waiting, Refused}
use Rattle.std.specs.declared.result.Result.TheVariants.{Ok, Err}
use Rattle.std.specs.declared.result.Result.{Result}
use Rattle.calendar.specs.declared.Refusal.{Refusal}
use Rattle.judge.proofs.Local.{lawful, unique_open}

-- what holds of every table, of this one
stays_refused : (a t : List ℕ) {n p : ℕ} → Given a n p → Given (a ++ t) n p
stays_refused = L.stays_refused table lawful

pub unique_given : {a : List ℕ} {n p n' p' : ℕ} → Given a n p → Given a n' p' → (n ≡ n') × (p ≡ p')
unique_given = L.unique_given table lawful

-- ONE ANSWER AT MOST IS RIGHT
pub unique_arrival : (a : List ℕ) (r s : Arrival) → Judged a r → Judged a s → r ≡ s
unique_arrival a (Waiting c e) (Waiting c' e') h k = let u = unique_open h k in cc
unique_arrival a (Waiting c e) (Refused x) h k = absurd (not_clean k h.clean)
unique_arrival a (Refused x) (Waiting c e) h k = absurd (not_clean h k.clean)
unique_arrival a (Refused x) (Refused y) h k = let u = unique_given h k in ap Refused (same_refusal x y u.0 u.1)

-- A REFUSAL IS FINAL: it is all that is right to say of every longer arrival, and of a product that is finished there; the list of rows is kept
module _ (a t : List ℕ) {n p : ℕ} (g : Given a n p) where
  pub refusal_kept : (r : Arrival) → Judged (a ++ t) r → r ≡ Refused (refusing n p)
  refusal_kept r j = unique_arrival (a ++ t) r (Refused (refusing n p)) j (stays_refused a t g)

  pub refusal_final : (rows : List (List ℕ)) (r : Result ℕ Refusal) (rows' : List (List ℕ)) → FinishedIs (a ++ t) rows r rows' → (r ≡ refused_with n p) × (rows' ≡ rows)
  refusal_final rows (Ok c) rows' f = absurd (not_clean (stays_refused a t g) f.complete.clean)
  refusal_final rows (Err r) rows' (f, e) = let u = go f in (ap Err (same_refusal r (refusing n p) u.0 u.1), e)
    where
      go : {n' p' : ℕ} → Refuses (a ++ t) (length rows) n' p' → (n' ≡ n) × (p' ≡ p)
      go (faulty h) = unique_given h (stays_refused a t g)
      go (short c _) = absurd (not_clean (stays_refused a t g) c)
      go (no_room c _ _) = absurd (not_clean (stays_refused a t g) c.clean)
