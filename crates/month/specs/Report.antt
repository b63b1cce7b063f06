-- THE MONTH REPORT (02, request Twelve: "Over a list of up to 4,096 products, lent one after the other, give for each class the number of records and bytes,
-- and for MDRs the milliseconds of gap between one stop and the next start within a product, and of overlap .. Totals are those of a definition over the
-- accepted products' rows; a refused product adds nothing but one to its refusal's tally. .. Refusals: 36, a 4,097th product (refused ones counted) or a
-- total past 64 bits, place 0, the report unchanged"). A report is 38 numbers: products; records of the classes 1 to 8; bytes of them; milliseconds of
-- gap, of overlap; pairs with an undefined time; products accepted; products refused with 1 to 17. Assumes nothing.
use Rattle.std.specs.Prelude.{ℕ, ◌+◌, ◌≤◌, ◌<◌, ◌≡◌, cond, List, [], ◌∷◌, ◌++◌, eqb, get_or, set, replicate}
use Rattle.calendar.specs.Said.{refusing}
use Rattle.calendar.specs.declared.Refusal.{Refusal}
use Rattle.meter.specs.Time.{time_at}
use Rattle.std.specs.declared.result.Result.TheVariants.{Ok, Err}
use Rattle.std.specs.declared.option.Option.TheVariants.{Some, None}
use Rattle.std.specs.declared.option.Option.{Option}
use Rattle.std.specs.declared.result.Result.{Result}
use Rattle.meter.specs.declared.time.Time.{Time}
use Rattle.finish.specs.Rows.{start_of}
use Rattle.finish.specs.Finish.{VerdictIs}
use Rattle.demands.specs.Product.{class, size, Meets}
use Rattle.moment.specs.Moment.{gap_between, overlap_between, undefined_between}

-- ---- ONE PRODUCT, whose bytes are a; l are the starts of its records, as its rows have them
-- the sum of w over the records of class c
abbrev pub sum_of : List ℕ → (ℕ → ℕ) → ℕ → List ℕ → ℕ
sum_of a w c [] = 0
sum_of a w c (i ∷ l) = cond (eqb (class a i) c) (w i) 0 + sum_of a w c l

-- "for each class the number of records and bytes"
abbrev pub records_in : List ℕ → List ℕ → ℕ → ℕ
records_in a l c = sum_of a (λ (i : ℕ). 1) c l

abbrev pub bytes_in : List ℕ → List ℕ → ℕ → ℕ
bytes_in a l c = sum_of a (size a) c l

-- "for MDRs": the starts of the records of class 8, dummies too
abbrev pub mdrs : List ℕ → List ℕ → List ℕ
mdrs a [] = []
mdrs a (i ∷ l) = cond (eqb (class a i) 8) (i ∷ mdrs a l) (mdrs a l)

-- the sum of f over the pairs: each two that follow each other
abbrev pub over_pairs : (ℕ → ℕ → ℕ) → List ℕ → ℕ
over_pairs f [] = 0
over_pairs f (i ∷ []) = 0
over_pairs f (i ∷ j ∷ l) = f i j + over_pairs f (j ∷ l)

-- "between one stop and the next start": f of the stop of the record at byte i and the start of that at byte j
abbrev pub stop_to_start : {A : Type 0} → (Option Time → Option Time → A) → List ℕ → ℕ → ℕ → A
stop_to_start f a i j = f (time_at a (i + 14)) (time_at a (j + 8))

abbrev pub gaps : List ℕ → List ℕ → ℕ
gaps a l = over_pairs (stop_to_start gap_between a) (mdrs a l)

abbrev pub overlaps : List ℕ → List ℕ → ℕ
overlaps a l = over_pairs (stop_to_start overlap_between a) (mdrs a l)

abbrev pub undefined_pairs : List ℕ → List ℕ → ℕ
undefined_pairs a l = over_pairs (stop_to_start undefined_between a) (mdrs a l)

abbrev pub for_classes : (ℕ → ℕ) → List ℕ
for_classes f = f 1 ∷ f 2 ∷ f 3 ∷ f 4 ∷ f 5 ∷ f 6 ∷ f 7 ∷ f 8 ∷ []

-- the report of one accepted product that has these records and bytes by class, this gap and overlap, and these undefined pairs
abbrev pub totals : (ℕ → ℕ) → (ℕ → ℕ) → ℕ → ℕ → ℕ → List ℕ
totals f g x y z = 1 ∷ (for_classes f ++ (for_classes g ++ (x ∷ y ∷ z ∷ 1 ∷ replicate 17 0)))

-- WHAT AN ACCEPTED PRODUCT ADDS
abbrev pub contribution : List ℕ → List ℕ → List ℕ
contribution a l = totals (records_in a l) (bytes_in a l) (gaps a l) (overlaps a l) (undefined_pairs a l)

-- WHAT A PRODUCT REFUSED WITH n ADDS: one to the products, one to that tally
abbrev pub tallied : ℕ → List ℕ
tallied n = set (set (replicate 38 0) 0 1) (20 + n) 1

-- WHAT A PRODUCT ADDS, whichever it is, and what is said of it: its own refusal, 17 too where it is short, or none
pub data Contributes (a : List ℕ) : Option Refusal → List ℕ → Type 0 where
  accepted : (t : Meets a) → Contributes a None (contribution a (0 ∷ t.list))
  unfit : (r : Refusal) → VerdictIs a (Err r) → Contributes a (Some r) (tallied r.number)

-- ---- REPORTS
-- place by place, without bound
abbrev pub plus : List ℕ → List ℕ → List ℕ
plus [] ys = ys
plus (x ∷ xs) [] = x ∷ xs
plus (x ∷ xs) (y ∷ ys) = (x + y) ∷ plus xs ys

-- a new report
abbrev pub empty : List ℕ
empty = replicate 38 0

-- THE REPORT OF A LIST OF PRODUCTS, without bound: what each adds
pub data Reports : List (List ℕ) → List ℕ → Type 0 where
  none : Reports [] empty
  more : {a v x : List ℕ} {ps : List (List ℕ)} (said : Option Refusal) → Contributes a said v → Reports ps x → Reports (a ∷ ps) (plus v x)

-- "up to 4,096 products", each total in 64 bits: 36 is where this does not hold
pub record Within (x : List ℕ) : Type 0 where
  pub products : get_or x 0 0 ≤ 4096
  pub each : (k : ℕ) → k < 38 → get_or x k 0 < 18446744073709551616

-- what is answered of a product that is added: what is said of it where it is in, or 36
abbrev pub Added : Type 0
Added = Result (Option Refusal) Refusal

-- v joins the report x, which is y then, and `said` is answered; or 36, "place 0, the report unchanged"
pub data JoinIs (x v : List ℕ) (said : Option Refusal) : Added → List ℕ → Type 0 where
  joined : Within (plus x v) → JoinIs x v said (Ok said) (plus x v)
  past : (Within (plus x v) → ⊥) → JoinIs x v said (Err (refusing 36 0)) x

-- ADD: of the product a and the report x, r is answered and the report is y then
pub record AddIs (a x : List ℕ) (r : Added) (y : List ℕ) : Type 0 where
  pub said : Option Refusal
  pub share : List ℕ
  pub contributes : Contributes a said share
  pub joins : JoinIs x share said r y

-- MERGE: of two reports
pub data MergeIs (x y : List ℕ) : Result Unit Refusal → List ℕ → Type 0 where
  merged : Within (plus x y) → MergeIs x y (Ok tt) (plus x y)
  over : (Within (plus x y) → ⊥) → MergeIs x y (Err (refusing 36 0)) x

-- ---- A LIST OF PRODUCTS, "lent one after the other" to the report x: rs is answered of the products ps, and the report is y then
pub data Lent : List ℕ → List (List ℕ) → List Added → List ℕ → Type 0 where
  done : {x : List ℕ} → Lent x [] [] x
  next : {a x y z : List ℕ} {ps : List (List ℕ)} {r : Added} {rs : List Added} → AddIs a x r y → Lent y ps rs z → Lent x (a ∷ ps) (r ∷ rs) z

-- "never meets 36"
abbrev pub IsIn : Added → Type 0
IsIn (Ok said) = Unit
IsIn (Err r) = ⊥

abbrev pub AllIn : List Added → Type 0
AllIn [] = Unit
AllIn (r ∷ rs) = IsIn r × AllIn rs

-- ---- WHAT LAWS NAME
-- "a refused product adds nothing but one to its refusal's tally", n, and one to the products, "refused ones counted": from x to y
pub record OnlyTally (x y : List ℕ) (n : ℕ) : Type 0 where
  pub low : 1 ≤ n
  pub high : n ≤ 17
  pub products : get_or y 0 0 ≡ get_or x 0 0 + 1
  pub tally : get_or y (20 + n) 0 ≡ get_or x (20 + n) 0 + 1
  pub others : (k : ℕ) → (k ≡ 0 → ⊥) → (k ≡ 20 + n → ⊥) → get_or y k 0 ≡ get_or x k 0

-- "Totals are those of a definition over the accepted products' rows": a row has the start, the size and the class of its record
abbrev pub size_in : List ℕ → ℕ
size_in r = get_or r 1 0

abbrev pub class_in : List ℕ → ℕ
class_in r = get_or r 2 0

-- the sum of w over the rows of class c, and the starts in the rows of MDRs
abbrev pub over_rows : (List ℕ → ℕ) → ℕ → List (List ℕ) → ℕ
over_rows w c [] = 0
over_rows w c (r ∷ rs) = cond (eqb (class_in r) c) (w r) 0 + over_rows w c rs

abbrev pub mdr_rows : List (List ℕ) → List ℕ
mdr_rows [] = []
mdr_rows (r ∷ rs) = cond (eqb (class_in r) 8) (start_of r ∷ mdr_rows rs) (mdr_rows rs)
