-- The first record against a profile: what is asked of the records that are left is what is asked of all, and those that meet it can be passed over.
-- Assumes nothing.
use Prim.Native.Nat.{ℕ, ◌+◌, ◌≤◌, ◌<◌}
use native.Mathlib.Omega.{arith}
use native.Mathlib.Decide.{ℕ_discrete}
use mathlib.Core.Path.{◌≡◌, refl, sym, ap, subst, ◌∙◌}
use mathlib.Core.Bool.{true, false}
use mathlib.Core.List.{List, [], ◌∷◌}
use lib.ListN.{length}
use Rattle.judge.specs.Table.{size_at}
use Rattle.judge.specs.Profile.{is_allowed, Meeting, over, further}
use Rattle.finish.specs.Ahead.{Record, Ahead, none, more}
use Rattle.finish.specs.Profile.{first_against, Going, LeapIs, AgainstIs}
use Rattle.std.specs.declared.option.Option.TheVariants.{Some, None}
use Rattle.std.specs.declared.result.Result.TheVariants.{Ok, Err}
use Rattle.std.specs.declared.option.Option.{Option}
use Rattle.std.specs.declared.result.Result.{Result}
use Rattle.calendar.specs.declared.Refusal.{Refusal}
use Rattle.judge.specs.Extent.{Complete, Covered}
use Rattle.judge.proofs.ProfileLaws.{meeting_le}
use Rattle.finish.specs.Finish.{starts, FinishedIs, VerdictIs, Refuses, Unfit, RefusesBy, against, RowsBy}
use Rattle.finish.specs.Finish as F
use Rattle.finish.proofs.AheadLaws.{ahead_step, ahead_stop, all_ahead}

-- one that passes, and one that does not
passes_on : (p : List (List ℕ)) (a : List ℕ) (i : ℕ) (l : List ℕ) → is_allowed p a i ≡ true → first_against p a (i ∷ l) ≡ first_against p a l
passes_on p a i l e = rw e refl

named_here : (p : List (List ℕ)) (a : List ℕ) (i : ℕ) (l : List ℕ) → is_allowed p a i ≡ false → first_against p a (i ∷ l) ≡ Some i
named_here p a i l e = rw e refl

-- ---- the records that are left
-- those that start at the bytes l have the first against a profile of those from byte i on
pub record Asking (p : List (List ℕ)) (a l : List ℕ) (i : ℕ) : Type 0 where
  pub left : Going a i
  pub same : first_against p a l ≡ first_against p a left.starts

pub asked_first : (p : List (List ℕ)) {a l : List ℕ} {i : ℕ} → Ahead a i l → Asking p a l i
asked_first p {l = l} w = record { left = record { starts = l; ahead = w }; same = refl }

module _ {p : List (List ℕ)} {a l : List ℕ} {i : ℕ} (k : Asking p a l i) where
  pub asked_record : i < length a → Record a i
  asked_record h = (ahead_step k.left.ahead h).here

  pub asked_stop : i < length a → is_allowed p a i ≡ false → first_against p a l ≡ Some i
  asked_stop h e =
      let t = ahead_step k.left.ahead h in
      k.same ∙ ap (first_against p a) t.is ∙ named_here p a i t.rest e

  pub asked_next : i < length a → is_allowed p a i ≡ true → Asking p a l (i + size_at a i)
  asked_next h e =
      let t = ahead_step k.left.ahead h in
      record { left = record { starts = t.rest; ahead = t.on }; same = k.same ∙ ap (first_against p a) t.is ∙ passes_on p a i t.rest e }

  pub asked_last : length a ≤ i → first_against p a l ≡ None
  asked_last h = k.same ∙ ap (first_against p a) (ahead_stop k.left.ahead h)

-- THOSE THAT MEET THE PROFILE are passed over: the first against it is one of those after them
pub meeting_ahead : {p : List (List ℕ)} {a l : List ℕ} {i j : ℕ} → Ahead a i l → Meeting p a i j → Asking p a l j
meeting_ahead {p} w over = asked_first p w
meeting_ahead {p} {a} {j = j} (none h) (further e m) = record { left = record { starts = []; ahead = none {i = j} (omega (arith, meeting_le m)) }; same = refl }
meeting_ahead {p} {a} {i = i} (more {l = l} r n) (further e m) = let k = meeting_ahead {l = l} n m in record { left = k.left; same = passes_on p a i l e ∙ k.same }

pub asked_leap : {p : List (List ℕ)} {a l : List ℕ} {i j : ℕ} → Asking p a l i → Meeting p a i j → Asking p a l j
asked_leap k m = let q = meeting_ahead k.left.ahead m in record { left = q.left; same = k.same ∙ q.same }

-- by the leap of the code, which goes on
pub leaps : {p : List (List ℕ)} {a l : List ℕ} {i j r : ℕ} → Asking p a l i → Meeting p a 3307 j → LeapIs i j r → Asking p a l r × (i ≤ r)
leaps {p} {a} {l} {i} {j} {r} k m e =
    elim (ℕ_discrete i 3307) [
      | yes f ↦ let n = subst (λ (x : ℕ). Meeting p a x j) (sym f) m in (subst (Asking p a l) (sym (e.first f)) (asked_leap k n), omega (arith, meeting_le n, e.first f))
      | no f ↦ (subst (Asking p a l) (sym (e.other f)) k, omega (arith, e.other f))
    ]

-- ---- BY A PROFILE: what is said where no record is against it is what the lister says
pub by_rows :
    (p : List (List ℕ)) (a : List ℕ) (rows : List (List ℕ)) (r : Result ℕ Refusal) (rows' : List (List ℕ)) → Complete a → AgainstIs p a None → FinishedIs a rows r rows'
    → RowsBy p a rows r rows'
by_rows p a rows (Ok c) rows' k e f = record { accepts = f; allowed = sym (e _ (all_ahead k f.filled.covered)) }
by_rows p a rows (Err r) rows' k e (q, s) = (go q, s)
  where
    go : {n m : ℕ} → Refuses a (length rows) n m → RefusesBy p a (length rows) n m
    go (F.faulty g) = F.faulty g
    go (F.short c h) = F.short c h
    go (F.no_room o v h) = F.no_room o v (sym (e _ (all_ahead o v))) h

pub by_place : (p : List (List ℕ)) {a : List ℕ} {c q : ℕ} (room : ℕ) → Complete a → (v : Covered a c) → AgainstIs p a (Some q) → RefusesBy p a room 29 q
by_place p room k v e = against k v (sym (e _ (all_ahead k v)))

pub product_going : {a : List ℕ} {c : ℕ} → Complete a → Covered a c → Going a 0
product_going k v = record { starts = _; ahead = all_ahead k v }

pub none_against : (a l : List ℕ) → first_against [] a l ≡ None
none_against a [] = refl
none_against a (i ∷ l) = none_against a l

pub empty_against : (p : List (List ℕ)) (a : List ℕ) → length p ≡ 0 → AgainstIs p a None
empty_against [] a e l w = sym (none_against a l)
empty_against (q ∷ p) a e l w = absurd (omega arith)

-- the verdict's refusal is handed on
pub by_unfit : (p : List (List ℕ)) {a : List ℕ} {n q : ℕ} (room : ℕ) → Unfit a n q → RefusesBy p a room n q
by_unfit p room (F.faulty g) = F.faulty g
by_unfit p room (F.short c h) = F.short c h

pub by_verdict :
    (p : List (List ℕ)) (a : List ℕ) (rows : List (List ℕ)) (r : Result ℕ Refusal) (q : Refusal) → r ≡ Err q → VerdictIs a r → RowsBy p a rows r rows
by_verdict p a rows r q e f = rw e (by_unfit p (length rows) (rw e at f), refl)

-- ---- NO PROFILE: nothing is against it, so the lister by it is the lister
pub by_none : (a : List ℕ) (rows : List (List ℕ)) (r : Result ℕ Refusal) (rows' : List (List ℕ)) → RowsBy [] a rows r rows' → FinishedIs a rows r rows'
by_none a rows (Ok c) rows' f = f.accepts
by_none a rows (Err r) rows' (q, e) = (go q, e)
  where
    never : {x : Option ℕ} {j : ℕ} → x ≡ None → x ≡ Some j → ⊥
    never e d = let z : ◌≡◌ {A = ℕ} 0 1 = cc in omega arith

    go : {n m : ℕ} → RefusesBy [] a (length rows) n m → Refuses a (length rows) n m
    go (F.faulty g) = F.faulty g
    go (F.short c h) = F.short c h
    go (against k v d) = absurd (never (none_against a (0 ∷ starts v.way)) d)
    go (F.no_room k v d h) = F.no_room k v h
