-- THE VERDICT AND THE LISTER IN TURN answer what the finished judge did (`FinishedIs`), 18 included: both ways. Assumes nothing.
use Prim.Native.Nat.{ℕ}
use mathlib.Core.Path.{◌≡◌, refl, sym, subst}
use mathlib.Core.List.{List}
use lib.ListN.{length}
use Rattle.finish.specs.Finish.{Refuses, Unfit, VerdictIs, FinishedIs, InTurn, unfit, little, listed}
use Rattle.finish.specs.Finish as F
use Rattle.std.specs.declared.result.Result.TheVariants.{Ok, Err}
use Rattle.std.specs.declared.result.Result.{Result}
use Rattle.calendar.specs.declared.Refusal.{Refusal}

-- ---- what the two say in turn is what the one promised
pub turn_finished : (a : List ℕ) (rows : List (List ℕ)) (v r : Result ℕ Refusal) (rows' : List (List ℕ)) → VerdictIs a v → InTurn a rows v r rows' → FinishedIs a rows r rows'
turn_finished a rows v r rows' f (unfit x) = (go f, refl)
  where
    go : {n p : ℕ} → Unfit a n p → Refuses a (length rows) n p
    go (F.faulty g) = F.faulty g
    go (F.short c h) = F.short c h
turn_finished a rows v r rows' f (little x e d h) = (rw (e, d) (F.no_room f.0 f.1 h), refl)
turn_finished a rows v r rows' k (listed f) = record { complete = k.0; filled = f }

-- ---- and what the one promised the two say in turn
pub record Turns (a : List ℕ) (rows : List (List ℕ)) (r : Result ℕ Refusal) (rows' : List (List ℕ)) : Type 0 where
  pub said : Result ℕ Refusal
  pub verdict : VerdictIs a said
  pub turn : InTurn a rows said r rows'

pub finished_turn : (a : List ℕ) (rows : List (List ℕ)) (r : Result ℕ Refusal) (rows' : List (List ℕ)) → FinishedIs a rows r rows' → Turns a rows r rows'
finished_turn a rows (Ok c) rows' f = record { said = Ok c; verdict = (f.complete, f.filled.covered); turn = listed f.filled }
finished_turn a rows (Err r) rows' (q, e) = subst (Turns a rows (Err r)) (sym e) (go r.number r.place refl refl q)
  where
    go : (n p : ℕ) → r.number ≡ n → r.place ≡ p → Refuses a (length rows) n p → Turns a rows (Err r) rows
    go n p d f (F.faulty g) = record { said = Err r; verdict = rw (d, f) (F.faulty g); turn = unfit r }
    go n p d f (F.short c h) = record { said = Err r; verdict = rw (d, f) (F.short c h); turn = unfit r }
    go n p d f (F.no_room {c = c} k v h) = record { said = Ok c; verdict = (k, v); turn = little r d f h }
