-- What is to be said of a finished product, and what the lent list of rows is to hold (01, "Numbers we answer with": "The finished judge accepts
-- with the count, index places 0 to count-1 written, the others kept"; rows 17 and 18; 02, Six: the index is a list of rows, and "Room in 18 is now
-- counted in rows"). Assumes nothing.
use Rattle.std.specs.Prelude.{ℕ, ◌+◌, ◌≤◌, ◌<◌, ◌≡◌, List, [], ◌∷◌, length, set}
use Rattle.calendar.specs.declared.Refusal.{Refusal}
use Rattle.calendar.specs.Said.{refusing}
use Rattle.judge.specs.Table.{Site, Leads, here, on, Clean, Given}
use Rattle.judge.specs.Extent.{Short, Complete, Covered}
use Rattle.std.specs.declared.option.Option.TheVariants.{Some, None}
use Rattle.std.specs.declared.result.Result.TheVariants.{Ok, Err}
use Rattle.std.specs.declared.option.Option.{Option}
use Rattle.std.specs.declared.result.Result.{Result}
use Rattle.finish.specs.Rows.{rows_of}
use Rattle.finish.specs.Profile.{first_against}

-- the starts of the records on the way from x to y
abbrev pub starts : {a : List ℕ} {x y : Site} → Leads a x y → List ℕ
starts here = []
starts (on {x = x} s l) = x.at ∷ starts l

-- l, written into a list from place k on
abbrev pub put : {A : Type 0} → ℕ → List A → List A → List A
put k [] rows = rows
put k (r ∷ l) rows = put (k + 1) l (set rows k r)

-- a product is refused with (n, p), by a list with room for so many rows: by the table; row 17, "finished short of 3,307 or of D"; row 18, "lent room
-- too small"
pub data Refuses (a : List ℕ) (room : ℕ) : ℕ → ℕ → Type 0 where
  faulty : {n p : ℕ} → Given a n p → Refuses a room n p
  short : Clean a → Short a → Refuses a room 17 (length a)
  no_room : {c : ℕ} → Complete a → Covered a c → room < c → Refuses a room 18 c

-- THE VERDICT (02, Fourteen: "Split it into a verdict and a row lister that takes an accepted product; the lister judges for itself and hands refusals
-- on"): 1 to 17, or accepted with the count
pub data Unfit (a : List ℕ) : ℕ → ℕ → Type 0 where
  faulty : {n p : ℕ} → Given a n p → Unfit a n p
  short : Clean a → Short a → Unfit a 17 (length a)

abbrev pub VerdictIs : List ℕ → Result ℕ Refusal → Type 0
VerdictIs a (Ok c) = Complete a × Covered a c
VerdictIs a (Err r) = Unfit a r.number r.place

-- and by what the arrival judge says of a product of n bytes
abbrev pub judged_as : Result (Option ℕ) Refusal → ℕ → Result ℕ Refusal
judged_as (Err r) n = Err r
judged_as (Ok None) n = Err (refusing 17 n)
judged_as (Ok (Some c)) n = Ok c

-- the list has become rows': the main header's row first, then the others'; what stood at the other places is kept
pub record Filled (a : List ℕ) (rows : List (List ℕ)) (c : ℕ) (rows' : List (List ℕ)) : Type 0 where
  pub covered : Covered a c
  pub fits : c ≤ length rows
  pub index : rows' ≡ put 0 (rows_of a (0 ∷ starts covered.way)) rows

pub record Accepts (a : List ℕ) (rows : List (List ℕ)) (c : ℕ) (rows' : List (List ℕ)) : Type 0 where
  pub complete : Complete a
  pub filled : Filled a rows c rows'

-- what is right to say of a finished product; a refusal keeps all of the list
abbrev pub FinishedIs : List ℕ → List (List ℕ) → Result ℕ Refusal → List (List ℕ) → Type 0
FinishedIs a rows (Ok c) rows' = Accepts a rows c rows'
FinishedIs a rows (Err r) rows' = Refuses a (length rows) r.number r.place × (rows' ≡ rows)

-- THE TWO IN TURN (02, Fourteen: "The two in turn answer what the one did, 18 included"): the verdict's refusal is handed on; where it accepts with c, 18
-- where the room is less, or the rows
pub data InTurn (a : List ℕ) (rows : List (List ℕ)) : Result ℕ Refusal → Result ℕ Refusal → List (List ℕ) → Type 0 where
  unfit : (r : Refusal) → InTurn a rows (Err r) (Err r) rows
  little : {c : ℕ} (r : Refusal) → r.number ≡ 18 → r.place ≡ c → length rows < c → InTurn a rows (Ok c) (Err r) rows
  listed : {c : ℕ} {rows' : List (List ℕ)} → Filled a rows c rows' → InTurn a rows (Ok c) (Ok c) rows'

abbrev pub refused_with : ℕ → ℕ → Result ℕ Refusal
refused_with n p = Err (refusing n p)

-- ---- BY A PROFILE (02, Nine: "A profile judge takes the finished judge's verdict first and then those tables"; "29, record against the profile, place
-- the first such record, after 17 and before 18")
pub data RefusesBy (p : List (List ℕ)) (a : List ℕ) (room : ℕ) : ℕ → ℕ → Type 0 where
  faulty : {n q : ℕ} → Given a n q → RefusesBy p a room n q
  short : Clean a → Short a → RefusesBy p a room 17 (length a)
  against : {c q : ℕ} → Complete a → (v : Covered a c) → first_against p a (0 ∷ starts v.way) ≡ Some q → RefusesBy p a room 29 q
  no_room : {c : ℕ} → Complete a → (v : Covered a c) → first_against p a (0 ∷ starts v.way) ≡ None → room < c → RefusesBy p a room 18 c

pub record AcceptsBy (p : List (List ℕ)) (a : List ℕ) (rows : List (List ℕ)) (c : ℕ) (rows' : List (List ℕ)) : Type 0 where
  pub accepts : Accepts a rows c rows'
  pub allowed : first_against p a (0 ∷ starts accepts.filled.covered.way) ≡ None

abbrev pub RowsBy : List (List ℕ) → List ℕ → List (List ℕ) → Result ℕ Refusal → List (List ℕ) → Type 0
RowsBy p a rows (Ok c) rows' = AcceptsBy p a rows c rows'
RowsBy p a rows (Err r) rows' = RefusesBy p a (length rows) r.number r.place × (rows' ≡ rows)
