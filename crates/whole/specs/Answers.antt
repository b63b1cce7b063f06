-- WHAT EACH QUERY ANSWERS OF A PRODUCT, from its values alone: the verdict and the arrival judge, the field queries, the ground point, the record query, the rows of the index, the listing,
-- the pointer reader. Assumes nothing.
use Rattle.std.specs.Prelude.{ℕ, suc, ◌+◌, ◌≤◌, ◌<◌, ◌≡◌, Bool, cond, ◌&&◌, List, [], ◌∷◌, ◌++◌, eqb, length, get_or, take, drop}
use Rattle.calendar.specs.Said.{answer}
use Rattle.std.specs.declared.result.Result.TheVariants.{Ok}
use Rattle.std.specs.declared.option.Option.{Option}
use Rattle.std.specs.declared.result.Result.{Result}
use Rattle.calendar.specs.declared.Refusal.{Refusal}
use Rattle.std.specs.Prelude.{ℤ}
use Rattle.meter.specs.declared.general.Moment.{Moment}
use Rattle.query.specs.declared.GroundPoint.{GroundPoint}
use Rattle.query.specs.declared.Record.{Record}
use Rattle.query.specs.declared.Part.{Part}
use Rattle.query.specs.Found.{part_found}
use Rattle.query.specs.Found.{record_found}
use Rattle.record.specs.Pointer.{pointer_read_at}
use Rattle.record.specs.declared.header.Header.{Header}
use Rattle.record.specs.declared.pointer.Pointer.{Pointer}
use Rattle.mphr.specs.Layout.{bytes_of, width_of, kind_of}
use Rattle.mphr.specs.Lines.{is_long}
use Rattle.judge.specs.Table.{Judged}
use Rattle.judge.specs.declared.arrival.Arrival.{Arrival}
use Rattle.judge.specs.declared.arrival.Arrival.TheVariants.{Waiting}
use Rattle.finish.specs.Finish.{put, VerdictIs, FinishedIs}
use Rattle.query.specs.Query.{value_start, TextIs, NumberIs, TimeIs, latitude_field, point_of, PointIs, RecordIs}
use Rattle.listing.specs.Decimal.{column}
use Rattle.listing.specs.Listing.{row, ListedIs}
use Rattle.whole.specs.Values.{text, number, time, Rec, pointer, Values, head_of, line_in}

-- the headers of the records, the main header's first
abbrev pub heads : List Rec → List Header
heads [] = []
heads (r ∷ l) = head_of r ∷ heads l

abbrev pub heads_of : Values → List Header
heads_of v = v.header ∷ heads v.records

-- where they start: each where the one before it ends
abbrev pub starts_from : ℕ → List Header → List ℕ
starts_from i [] = []
starts_from i (h ∷ l) = i ∷ starts_from (i + h.size) l

abbrev pub start_of : Values → ℕ → ℕ
start_of v k = get_or (starts_from 0 (heads_of v)) k 0

-- how many of the headers l are of h's class, group and subclass
abbrev pub ordinal : Header → List Header → ℕ
ordinal h [] = 0
ordinal h (g ∷ l) = ordinal h l + cond (eqb g.class h.class && (eqb g.group h.group && eqb g.subclass h.subclass)) 1 0

-- THE ROWS (02, Six): start, size, class, group, subclass, version, and the row's ordinal among those before it, whose headers are `before`
abbrev pub rows_from : List Header → ℕ → List Header → List (List ℕ)
rows_from before i [] = []
rows_from before i (h ∷ l) = (i ∷ h.size ∷ h.class ∷ h.group ∷ h.subclass ∷ h.version ∷ ordinal h before ∷ []) ∷ rows_from (h ∷ before) (i + h.size) l

-- THE LISTING: "its columns are start, class, group, subclass, version, size"
abbrev pub lines_from : ℕ → List Header → List ℕ
lines_from i [] = []
lines_from i (h ∷ l) = row (i ∷ h.class ∷ h.group ∷ h.subclass ∷ h.version ∷ h.size ∷ []) ++ lines_from (i + h.size) l

abbrev pub listed : Values → List ℕ
listed v = (bytes_of "records " ++ column (length (heads_of v)) 10) ++ lines_from 0 (heads_of v)

-- THE PRODUCT a ANSWERS WHAT v SAYS, to every query
pub record Answers (a : List ℕ) (v : Values) : Type 0 where
  pub verdict : (r : Result ℕ Refusal) → VerdictIs a r → r ≡ Ok (length (heads_of v))
  pub arrival : (r : Arrival) → Judged a r → r ≡ Waiting (length (heads_of v)) (length a)
  pub texts : (k : ℕ) (t : List ℕ) → k < 72 → line_in v k ≡ text t → (r : Result Part Refusal) → TextIs a k r → (r ≡ part_found (value_start k) (width_of k)) × (take (width_of k) (drop (value_start k) a) ≡ t)
  pub numbers : (k : ℕ) (x : Option ℤ) → k < 72 → line_in v k ≡ number x → (r : Result (Option ℤ) Refusal) → NumberIs a k r → r ≡ Ok x
  pub times : (k : ℕ) (g : Option Moment) → k < 72 → line_in v k ≡ time g → (r : Result (Option Moment) Refusal) → TimeIs a k (is_long (kind_of k)) r → r ≡ Ok g
  pub points : (end : Bool) (x y : Option ℤ) → line_in v (latitude_field end) ≡ number x → line_in v (latitude_field end + 1) ≡ number y → (r : Result (Option GroundPoint) Refusal) → PointIs a end r → r ≡ point_of x y
  pub records : (k : ℕ) → k < length (heads_of v) → (r : Result Record Refusal) → RecordIs a k r → r ≡ record_found (start_of v k) (get_or (heads_of v) k v.header)
  pub targets : (k : ℕ) (p : Pointer) → k < length v.records → get_or v.records k (pointer p) ≡ pointer p → pointer_read_at a (start_of v (suc k)) ≡ answer p
  pub rows : (rows rows' : List (List ℕ)) → length (heads_of v) ≤ length rows → (r : Result ℕ Refusal) → FinishedIs a rows r rows' → (r ≡ Ok (length (heads_of v))) × (rows' ≡ put 0 (rows_from [] 0 (heads_of v)) rows)
  pub listing : (room exit : List ℕ) → length a ≤ 65536 → length (listed v) ≤ length room → (r : Result ℕ Refusal) → ListedIs a room r exit → (r ≡ Ok (length (listed v))) × (exit ≡ listed v ++ drop (length (listed v)) room)
