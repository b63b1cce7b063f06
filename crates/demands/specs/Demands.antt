-- THE MISSION'S THREE DEMANDS, over the judges' answers: `Judged a r` says that r is right to answer of the arrival a, `VerdictIs a r` that r is right to
-- answer of the finished product a, `FinishedIs a rows r rows'` that so it is and that the lent list, rows before, is then rows'. Each judge ends with such
-- an answer for any bytes: its promise has no `requires`. Assumes nothing.
use Rattle.std.specs.Prelude.{ℕ, zero, suc, ◌+◌, ◌≤◌, ◌<◌, ◌≡◌, List, [], ◌∷◌, ◌++◌, length, get_or}
use Rattle.calendar.specs.declared.Refusal.{Refusal}
use Rattle.tables.specs.Table.{Row, fault}
use Rattle.judge.specs.Table.{Gives, Judged}
use Rattle.judge.specs.Extent.{ExtentIs}
use Rattle.judge.specs.declared.arrival.Arrival.{Arrival}
use Rattle.judge.specs.declared.arrival.Arrival.TheVariants.{Waiting, Refused}
use Rattle.std.specs.declared.result.Result.TheVariants.{Ok, Err}
use Rattle.std.specs.declared.option.Option.{Option}
use Rattle.std.specs.declared.result.Result.{Result}
use Rattle.finish.specs.Rows.{rows_of, start_of}
use Rattle.finish.specs.Finish.{put, VerdictIs, FinishedIs}
use Rattle.demands.specs.Product.{size, Meets}

-- where record k starts: record 0, the main header, at byte 0; each other where the one before it ends
unfoldable pub start : List ℕ → ℕ → ℕ
start a zero = 0
start a (suc k) = start a k + size a (start a k)

-- DEMAND 1. "Any bytes, of any length, may be handed in. Each entry judges its own input and ends with an answer or a numbered refusal with a place. A
-- refusal leaves each lent buffer as it came": a refusal has a number of the table, and the list of rows is as it came
pub record Demand1 : Type 0 where
  pub arrival : (a : List ℕ) (r : Refusal) → Judged a (Refused r) → (1 ≤ r.number) × (r.number ≤ 16)
  pub extent : (a : List ℕ) (r : Refusal) → ExtentIs a (Err r) → (1 ≤ r.number) × (r.number ≤ 16)
  pub verdict : (a : List ℕ) (r : Refusal) → VerdictIs a (Err r) → (1 ≤ r.number) × (r.number ≤ 17)
  pub finished : (a : List ℕ) (rows rows' : List (List ℕ)) (r : Refusal) → FinishedIs a rows (Err r) rows' → (1 ≤ r.number) × (r.number ≤ 18) × (rows' ≡ rows)

-- DEMAND 2. "A product is accepted exactly when it meets the format" (`Meets`, Product.antt): by the verdict, and by the row lister, given room for its
-- rows. "The index then holds those starts": the list has the rows of its records (request Six), whose first numbers they are, from place 0 on, and what
-- it held at the others
pub record Demand2 : Type 0 where
  pub verdict_only : (a : List ℕ) (c : ℕ) → VerdictIs a (Ok c) → (m : Meets a) × (c ≡ suc (length m.list))
  pub verdict_every : (a : List ℕ) (m : Meets a) (r : Result ℕ Refusal) → VerdictIs a r → r ≡ Ok (suc (length m.list))
  pub only : (a : List ℕ) (rows rows' : List (List ℕ)) (c : ℕ) → FinishedIs a rows (Ok c) rows' → (m : Meets a) × (c ≡ suc (length m.list)) × (rows' ≡ put 0 (rows_of a (0 ∷ m.list)) rows)
  pub every :
      (a : List ℕ) (rows rows' : List (List ℕ)) (m : Meets a) → suc (length m.list) ≤ length rows → (r : Result ℕ Refusal) → FinishedIs a rows r rows'
      → (r ≡ Ok (suc (length m.list))) × (rows' ≡ put 0 (rows_of a (0 ∷ m.list)) rows)

-- c records of a are whole, the first of them the main header of 3,307 bytes; the last ends at byte e
pub record Counted (a : List ℕ) (c e : ℕ) : Type 0 where
  pub main : 0 < c → size a 0 ≡ 3307
  pub within : (k : ℕ) → k < c → start a k + size a (start a k) ≤ e
  pub end : start a c ≡ e
  pub come : e ≤ length a

-- record k of a is record k of b, at the same place and of the same size
pub record Stays (a b : List ℕ) (k : ℕ) : Type 0 where
  pub place : start b k ≡ start a k
  pub sized : size b (start b k) ≡ size a (start a k)

-- the c records of a, which end at e, are the first of the n of b, which end at d
pub record Grows (a : List ℕ) (c e : ℕ) (b : List ℕ) (n d : ℕ) : Type 0 where
  pub count : c ≤ n
  pub end : e ≤ d
  pub each : (k : ℕ) → k < c → Stays a b k

-- OF A JUDGE OF ARRIVALS, whichever it is: `Says a r` is that r is right to say of the arrival a, and `Gives a f` that f is the row that its table gives of a
module _ (Says : List ℕ → Arrival → Type 0) (Gives : List ℕ → Row → Type 0) where
  -- the refusal r of a comes at `shown` bytes: of the arrivals that a begins with, those that are shorter wait, and all others get r
  pub record Comes (a : List ℕ) (r : Refusal) : Type 0 where
    pub shown : ℕ
    pub gives : Gives a (fault r.number r.place shown)
    pub waits : (b t : List ℕ) → b ++ t ≡ a → length b < shown → (s : Arrival) → Says b s → (c : ℕ) × (e : ℕ) × (s ≡ Waiting c e)
    pub refused : (b t : List ℕ) → b ++ t ≡ a → shown ≤ length b → (s : Arrival) → Says b s → s ≡ Refused r

  -- DEMAND 3, of an arrival a and every longer one, a ++ t. `Known a` is asked where what the judge said of a is held against the finished judge, which
  -- may not know all of its refusals
  pub record Demand3For (Known : List ℕ → Type 0) : Type 0 where
    -- "A refusal of an arrival is final: every longer arrival, finished or not, gets the same number and place"
    pub final : (a t : List ℕ) (r : Refusal) → Says a (Refused r) → (s : Arrival) → Says (a ++ t) s → s ≡ Refused r
    pub final_verdict : (a t : List ℕ) (r : Refusal) → Known a → Says a (Refused r) → (s : Result ℕ Refusal) → VerdictIs (a ++ t) s → s ≡ Err r
    pub final_extent : (a t : List ℕ) (r : Refusal) → Known a → Says a (Refused r) → (s : Result (Option ℕ) Refusal) → ExtentIs (a ++ t) s → s ≡ Err r
    pub final_finished :
        (a t : List ℕ) (r : Refusal) → Known a → Says a (Refused r) → (rows rows' : List (List ℕ)) (s : Result ℕ Refusal) → FinishedIs (a ++ t) rows s rows' → s ≡ Err r
    -- "What was counted stays, at the same place and size": what is counted; where the longer one waits; where it is accepted as a finished product, by
    -- the verdict, and by the lister, whose rows have the starts of its n records
    pub counted : (a : List ℕ) (c e : ℕ) → Says a (Waiting c e) → Counted a c e
    pub waiting : (a t : List ℕ) (c e n d : ℕ) → Says a (Waiting c e) → Says (a ++ t) (Waiting n d) → Grows a c e (a ++ t) n d
    pub accepted_verdict : (a t : List ℕ) (c e n : ℕ) → Says a (Waiting c e) → VerdictIs (a ++ t) (Ok n) → Grows a c e (a ++ t) n (length (a ++ t))
    pub accepted :
        (a t : List ℕ) (rows rows' : List (List ℕ)) (c e n : ℕ) → Says a (Waiting c e) → FinishedIs (a ++ t) rows (Ok n) rows'
        → Grows a c e (a ++ t) n (length (a ++ t)) × ((k : ℕ) → k < n → start_of (get_or rows' k []) ≡ start (a ++ t) k)
    -- "A refusal comes at the shortest arrival that shows the fault, never later"
    pub soonest : (a : List ℕ) (r : Refusal) → Says a (Refused r) → Comes a r

-- DEMAND 3 of the arrival judge; all that it says the finished judge knows
abbrev pub Demand3 : Type 0
Demand3 = Demand3For Judged Gives (λ (a : List ℕ). Unit)
