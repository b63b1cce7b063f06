-- Two products, so demand 2 is not empty: the paper's example, "an MPHR (version 2) and one 21-byte dummy (subclass 1, version 1), D = 3328" (01,
-- "Numbers we answer with"; the bytes are those of the first product of the vectors), and one with a secondary header, two pointers, what they point
-- at, and a dummy. By one test of a product and its starts, which is computed of each, and which decides `Meets`. Assumes nothing.
use Prim.Native.Nat.{ℕ, zero, suc, ◌+◌, ◌*◌, ◌≤◌, ◌<◌}
use Prim.Native.String.{String}
use native.Mathlib.Omega.{arith}
use mathlib.Core.Path.{◌≡◌, refl, sym, ap, ◌∙◌}
use mathlib.Core.Bool.{Bool, true, false, cond, ◌&&◌, ◌||◌, true≢false}
use mathlib.Core.List.Memᴰ.{head as top}
use mathlib.Core.List.Memᴰ.{tail as pop}
use mathlib.Core.List.{List, [], ◌∷◌, ◌++◌, Memᴰ as In}
use borrow.Author.Tests.{eq-eqb, eqb-true, leb-true}
use lib.Dec.{T, eqb, eqb→eq, leb}
use lib.Seq.{get_or-drop}
use lib.ListN.{length, get_or, drop}
use Rattle.calendar.specs.Calendar.{is_date, leap_day}
use Rattle.calendar.proofs.Range.{below}
use Rattle.calendar.proofs.Range as R
use Rattle.meter.specs.Integer.{be_at}
use Rattle.meter.specs.General.{lead, run_of, number_of, is_none, is_digits, moment_at, last_second, is_moment}
use Rattle.meter.proofs.IntegerLaws.{be_at_same}
use Rattle.meter.proofs.GeneralRuns.{and_true}
use Rattle.text.specs.Field.{is_x, is_number, is_value}
use Rattle.meter.specs.Time.{last_milli}
use Rattle.text.specs.declared.Kind.{Kind}
use Rattle.text.proofs.Alike.{lead_cong, value_alike}
use Rattle.record.specs.Header.{is_class, is_group}
use Rattle.record.specs.Follow.{first_after, may_follow}
use Rattle.record.specs.Times.{timed_at}
use Rattle.mphr.specs.Layout.{fields, widths, kinds, rows, names, width_of, kind_of, line_start, bytes_of}
use Rattle.mphr.specs.Table.{headed, timed, named, framed, valued, declared, total, sum}
use Rattle.finish.specs.Rows.{rows_of}
use Rattle.finish.specs.Finish.{put, FinishedIs}
use Rattle.std.specs.declared.result.Result.TheVariants.{Ok}
use Rattle.std.specs.declared.result.Result.{Result}
use Rattle.calendar.specs.declared.Refusal.{Refusal}
use Rattle.demands.proofs.Accepted.{meets_accepted}
use Rattle.demands.specs.Product.{MainHeader, class, group, kind, size, target_class, target_kind, offset, IsRecord, Aims, Records, none, more, of_class, Meets}

-- lines, each with its line feed
abbrev pub lines_of : List String → List ℕ
lines_of [] = []
lines_of (s ∷ ss) = bytes_of s ++ (10 ∷ lines_of ss)

-- the main header's lines: the size and the totals are a product's own
unfoldable pub text : String → List String → List String
text size totals =
    "PRODUCT_NAME                  = AMSA_xxx_1A_M01_20050101101500Z_20050101115500Z_N_O_20050101121500Z"
    ∷ "PARENT_PRODUCT_NAME_1         = xxxxxxxxxxxxxxxxxxxxxxxxxxxxxxxxxxxxxxxxxxxxxxxxxxxxxxxxxxxxxxxxxxx"
    ∷ "PARENT_PRODUCT_NAME_2         = xxxxxxxxxxxxxxxxxxxxxxxxxxxxxxxxxxxxxxxxxxxxxxxxxxxxxxxxxxxxxxxxxxx"
    ∷ "PARENT_PRODUCT_NAME_3         = xxxxxxxxxxxxxxxxxxxxxxxxxxxxxxxxxxxxxxxxxxxxxxxxxxxxxxxxxxxxxxxxxxx"
    ∷ "PARENT_PRODUCT_NAME_4         = xxxxxxxxxxxxxxxxxxxxxxxxxxxxxxxxxxxxxxxxxxxxxxxxxxxxxxxxxxxxxxxxxxx"
    ∷ "INSTRUMENT_ID                 = AMSA"
    ∷ "INSTRUMENT_MODEL              =   1"
    ∷ "PRODUCT_TYPE                  = xxx"
    ∷ "PROCESSING_LEVEL              = 1A"
    ∷ "SPACECRAFT_ID                 = M01"
    ∷ "SENSING_START                 = 20050101101500Z"
    ∷ "SENSING_END                   = 20050101101500Z"
    ∷ "SENSING_START_THEORETICAL     = 20050101101500Z"
    ∷ "SENSING_END_THEORETICAL       = 20050101101500Z"
    ∷ "PROCESSING_CENTRE             = CGS1"
    ∷ "PROCESSOR_MAJOR_VERSION       =     0"
    ∷ "PROCESSOR_MINOR_VERSION       =     0"
    ∷ "FORMAT_MAJOR_VERSION          =     0"
    ∷ "FORMAT_MINOR_VERSION          =     0"
    ∷ "PROCESSING_TIME_START         = 20050101101500Z"
    ∷ "PROCESSING_TIME_END           = 20050101101500Z"
    ∷ "PROCESSING_MODE               = N"
    ∷ "DISPOSITION_MODE              = O"
    ∷ "RECEIVING_GROUND_STATION      = SVL"
    ∷ "RECEIVE_TIME_START            = 20050101101500Z"
    ∷ "RECEIVE_TIME_END              = 20050101101500Z"
    ∷ "ORBIT_START                   =     0"
    ∷ "ORBIT_END                     =     0"
    ∷ size
    ∷ "STATE_VECTOR_TIME             = 20050101101500123Z"
    ∷ "SEMI_MAJOR_AXIS               =           0"
    ∷ "ECCENTRICITY                  =           0"
    ∷ "INCLINATION                   =           0"
    ∷ "PERIGEE_ARGUMENT              =           0"
    ∷ "RIGHT_ASCENSION               =           0"
    ∷ "MEAN_ANOMALY                  =           0"
    ∷ "X_POSITION                    =           0"
    ∷ "Y_POSITION                    =           0"
    ∷ "Z_POSITION                    =           0"
    ∷ "X_VELOCITY                    =           0"
    ∷ "Y_VELOCITY                    =           0"
    ∷ "Z_VELOCITY                    =           0"
    ∷ "EARTH_SUN_DISTANCE_RATIO      =           0"
    ∷ "LOCATION_TOLERANCE_RADIAL     =           0"
    ∷ "LOCATION_TOLERANCE_CROSSTRACK =           0"
    ∷ "LOCATION_TOLERANCE_ALONGTRACK =           0"
    ∷ "YAW_ERROR                     =           0"
    ∷ "ROLL_ERROR                    =           0"
    ∷ "PITCH_ERROR                   =           0"
    ∷ "SUBSAT_LATITUDE_START         =           0"
    ∷ "SUBSAT_LONGITUDE_START        =           0"
    ∷ "SUBSAT_LATITUDE_END           =           0"
    ∷ "SUBSAT_LONGITUDE_END          =           0"
    ∷ "LEAP_SECOND                   =  0"
    ∷ "LEAP_SECOND_UTC               = 20050101101500Z"
    ∷ (totals
    ++ ("COUNT_DEGRADED_INST_MDR       =      0"
    ∷ "COUNT_DEGRADED_PROC_MDR       =      0"
    ∷ "COUNT_DEGRADED_INST_MDR_BLOCKS=      0"
    ∷ "COUNT_DEGRADED_PROC_MDR_BLOCKS=      0"
    ∷ "DURATION_OF_PRODUCT           =        0"
    ∷ "MILLISECONDS_OF_DATA_PRESENT  =        0"
    ∷ "MILLISECONDS_OF_DATA_MISSING  =        0"
    ∷ "SUBSETTED_PRODUCT             = F"
    ∷ []))

-- the main header's record header, its lines, and the records
unfoldable pub product : String → List String → List ℕ → List ℕ
product size totals records =
    (1 ∷ 0 ∷ 0 ∷ 2 ∷ 0 ∷ 0 ∷ 12 ∷ 235 ∷ 23 ∷ 112 ∷ 0 ∷ 0 ∷ 0 ∷ 0 ∷ 23 ∷ 112 ∷ 0 ∷ 0 ∷ 3 ∷ 232 ∷ []) ++ (lines_of (text size totals) ++ records)

-- a record header of class c, group g, subclass s and size z
abbrev head : ℕ → ℕ → ℕ → ℕ → List ℕ → List ℕ
head c g s z rest = c ∷ g ∷ s ∷ 1 ∷ 0 ∷ 0 ∷ 0 ∷ z ∷ 23 ∷ 112 ∷ 0 ∷ 0 ∷ 0 ∷ 0 ∷ 23 ∷ 112 ∷ 0 ∷ 0 ∷ 3 ∷ 232 ∷ rest

-- THE PAPER'S: a dummy
unfoldable pub example : List ℕ
example =
    product "ACTUAL_PRODUCT_SIZE           =        3328"
    ("TOTAL_RECORDS                 =      2"
    ∷ "TOTAL_MPHR                    =      1"
    ∷ "TOTAL_SPHR                    =      0"
    ∷ "TOTAL_IPR                     =      0"
    ∷ "TOTAL_GEADR                   =      0"
    ∷ "TOTAL_GIADR                   =      0"
    ∷ "TOTAL_VEADR                   =      0"
    ∷ "TOTAL_VIADR                   =      0"
    ∷ "TOTAL_MDR                     =      1"
    ∷ [])
    (head 8 13 1 21 (0 ∷ []))

-- A RICHER ONE: an SPHR at 3307, pointers at 3327 and 3354 to the GIADR at 3381 and the dummy at 3401
unfoldable pub richer : List ℕ
richer =
    product "ACTUAL_PRODUCT_SIZE           =        3422"
    ("TOTAL_RECORDS                 =      6"
    ∷ "TOTAL_MPHR                    =      1"
    ∷ "TOTAL_SPHR                    =      1"
    ∷ "TOTAL_IPR                     =      2"
    ∷ "TOTAL_GEADR                   =      0"
    ∷ "TOTAL_GIADR                   =      1"
    ∷ "TOTAL_VEADR                   =      0"
    ∷ "TOTAL_VIADR                   =      0"
    ∷ "TOTAL_MDR                     =      1"
    ∷ [])
    (head 2 9 0 20
    (head 3 0 0 27 (5 ∷ 9 ∷ 1 ∷ 0 ∷ 0 ∷ 13 ∷ 53 ∷ head 3 0 0 27 (8 ∷ 13 ∷ 1 ∷ 0 ∷ 0 ∷ 13 ∷ 73 ∷ head 5 9 1 20 (head 8 13 1 21 (0 ∷ []))))))

-- ---- THE LINES. b is what there is from the line's start on, n the names from its own on: so a test walks to each line once
abbrev pub is_frame : List ℕ → List ℕ → ℕ → Bool
is_frame b n w =
    (eqb (lead (λ (j : ℕ). eqb (get_or b j 0) (get_or n j 0)) 30) 30 && (eqb (get_or b 30 0) 61 && eqb (get_or b 31 0) 32)) && eqb (get_or b (32 + w) 0) 10

abbrev is_line : List ℕ → List ℕ → ℕ → Kind → Bool
is_line b n w d = is_frame b n w && is_value d b 32 w

abbrev line_at : List ℕ → List ℕ → ℕ → Bool
line_at a ns k = is_line (drop (line_start k) a) (drop (30 * k) ns) (width_of k) (kind_of k)

passed : (b : Bool) → T b → b ≡ true
passed true t = refl
passed false t = absurd t

pub frame_at : (a : List ℕ) (k : ℕ) → framed a k ≡ is_frame (drop (line_start k) a) (drop (30 * k) names) (width_of k)
unfolding framed named
frame_at a k =
    let s = line_start k in
    let e : s + 32 + width_of k ≡ s + (32 + width_of k) = omega arith in
    let l =
    lead_cong (λ (j : ℕ). eqb (get_or (drop s a) j 0) (get_or (drop (30 * k) names) j 0))
    (λ (j : ℕ). eqb (get_or a (s + j) 0) (get_or names (30 * k + j) 0)) 30 (λ j h. rw (get_or-drop s a j 0, get_or-drop (30 * k) names j 0) refl) in
    rw (l, get_or-drop s a 30 0, get_or-drop s a 31 0, get_or-drop s a (32 + width_of k) 0, e) refl

pub value_at : (a : List ℕ) (k : ℕ) → valued a k ≡ is_value (kind_of k) (drop (line_start k) a) 32 (width_of k)
unfolding valued
value_at a k =
    value_alike
    (record { byte = λ j h. let e : line_start k + 32 + j ≡ line_start k + (32 + j) = omega arith in rw e (sym (get_or-drop (line_start k) a (32 + j) 0)) })
    (kind_of k)

lines_are : (a : List ℕ) → below (line_at a names) 72 ≡ true → (k : ℕ) → k < 72 → (framed a k ≡ true) × (valued a k ≡ true)
lines_are a e k h =
    let u = and_true (is_frame (drop (line_start k) a) (drop (30 * k) names) (width_of k)) _ (passed (line_at a names k) (R.at (line_at a names) 72 (rw e tt) k h)) in
    (frame_at a k ∙ u.0, value_at a k ∙ u.1)

-- ---- THE RECORDS. The record at byte i of b; the records of l come after it. A test walks to each record once: its b is what there is from it on
abbrev is_record : List ℕ → ℕ → ℕ → Bool
is_record b p i = is_class (class b i) && (is_group (group b i) && (may_follow p (class b i) && (leb 20 (size b i) && timed_at b i)))

abbrev is_in : ℕ → List ℕ → Bool
is_in x [] = false
is_in x (y ∷ l) = eqb x y || is_in x l

abbrev is_aimed : List ℕ → List ℕ → List ℕ → ℕ → Bool
is_aimed a b l i =
    eqb (size b i) 27 && (leb 4 (target_class b i) && (leb (target_class b i) 8 && (is_in (offset b i) l && eqb (kind a (offset b i)) (target_kind b i))))

abbrev is_records : List ℕ → ℕ → ℕ → List ℕ → Bool
is_records a i p [] = eqb i (declared a)
is_records a i p (j ∷ l) =
    let b = drop i a in
    eqb j i && (is_record b p 0 && (cond (eqb (class b 0) 3) (is_aimed a b l 0) true && is_records a (i + size b 0) (class b 0) l))

class_here : (a : List ℕ) (i : ℕ) → class (drop i a) 0 ≡ class a i
class_here a i = let z : i + 0 ≡ i = omega arith in get_or-drop i a 0 0 ∙ ap (λ (k : ℕ). get_or a k 0) z

be_here : (a : List ℕ) (i j n : ℕ) → be_at (drop i a) j n ≡ be_at a (i + j) n
be_here a i j n = be_at_same (drop i a) a j (i + j) n (λ k h. let e : i + (j + k) ≡ i + j + k = omega arith in get_or-drop i a (j + k) 0 ∙ ap (λ (m : ℕ). get_or a m 0) e)

record_here : (a : List ℕ) (p i : ℕ) → is_record (drop i a) p 0 ≡ is_record a p i
unfolding timed_at
record_here a p i = rw (class_here a i, get_or-drop i a 1 0, be_here a i 4 4, be_here a i 8 6, be_here a i 14 6)

aimed_here : (a l : List ℕ) (i : ℕ) → is_aimed a (drop i a) l 0 ≡ is_aimed a a l i
aimed_here a l i = rw (be_here a i 4 4, get_or-drop i a 20 0, be_here a i 23 4, be_here a i 20 3)

in_list : (x : ℕ) (l : List ℕ) → is_in x l ≡ true → In x l
in_list x [] e = absurd (true≢false (sym e))
in_list x (y ∷ l) e = go (eqb x y) refl e (in_list x l)
  where
    go : (b : Bool) → eqb x y ≡ b → b || is_in x l ≡ true → (is_in x l ≡ true → In x l) → In x (y ∷ l)
    go true q t r = top (eqb-true x y q)
    go false q t r = pop (r t)

module _ (a l : List ℕ) (p i : ℕ) (e : is_record a p i ≡ true) (f : cond (eqb (class a i) 3) (is_aimed a a l i) true ≡ true) where
  aimed : class a i ≡ 3 → is_aimed a a l i ≡ true
  aimed o = rw (eq-eqb (class a i) 3 o) at f

  aims : class a i ≡ 3 → Aims a l i
  aims o =
      let u = and_true (leb 4 (target_class a i)) _ (and_true (eqb (size a i) 27) _ (aimed o)).1 in
      let v = and_true (leb (target_class a i) 8) _ u.1 in
      let w = and_true (is_in (offset a i) l) _ v.1 in
      record { four = leb-true 4 _ u.0; eight = leb-true (target_class a i) 8 v.0; later = in_list (offset a i) l w.0; alike = eqb-true _ _ w.1 }

  is_record_lem : IsRecord a p i
  is_record_lem =
      let u = and_true (is_class (class a i)) _ e in
      let v = and_true (is_group (group a i)) _ u.1 in
      let w = and_true (may_follow p (class a i)) _ v.1 in
      let x = and_true (leb 20 (size a i)) _ w.1 in
      record { known = u.0; grouped = v.0; ordered = w.0; least = leb-true 20 _ x.0; ipr = λ o. eqb-true _ _ (and_true (eqb (size a i) 27) _ (aimed o)).0; times = x.1 }

records_are : (a : List ℕ) (i p : ℕ) (l : List ℕ) → is_records a i p l ≡ true → Records a i p l
records_are a i p [] e = none (eqb-true i (declared a) e)
records_are a i p (j ∷ l) e =
    let u = and_true (eqb j i) _ e in
    let v = and_true (is_record (drop i a) p 0) _ u.1 in
    let w = and_true (cond (eqb (class (drop i a) 0) 3) (is_aimed a (drop i a) l 0) true) _ v.1 in
    let r = sym (record_here a p i) ∙ v.0 in
    let m = rw (class_here a i, aimed_here a l i) at w.0 in
    rw (eqb-true j i u.0) (more (is_record_lem a l p i r m) (aims a l p i r m) (records_are a (i + size a i) (class a i) l (rw (class_here a i, be_here a i 4 4) at w.1)))

-- ---- A PRODUCT, whose records after the first start at the bytes of l
abbrev is_sums : List ℕ → Bool
is_sums a = eqb (total a 1) 1 && (leb (total a 2) 1 && eqb (total a 0) (sum a 8))

abbrev is_main : List ℕ → Bool
is_main a = headed a && (timed a && (leb 3307 (declared a) && (leb (declared a) 2147483647 && is_sums a)))

abbrev counted_as : List ℕ → List ℕ → ℕ → Bool
counted_as a l c = eqb (of_class a (suc c) (0 ∷ l)) (total a (suc c))

abbrev is_product : List ℕ → List ℕ → Bool
is_product a l = is_main a && (below (line_at a names) 72 && (is_records a 3307 1 l && (below (counted_as a l) 8 && eqb (length a) (declared a))))

module _ (a l : List ℕ) (e : is_product a l ≡ true) where
  main_is : below (line_at a names) 72 ≡ true → MainHeader a
  main_is n =
      let h = and_true (headed a) _ (and_true (is_main a) _ e).0 in
      let t = and_true (timed a) _ h.1 in
      let d = and_true (leb 3307 (declared a)) _ t.1 in
      let m = and_true (leb (declared a) 2147483647) _ d.1 in
      let s = and_true (eqb (total a 1) 1) _ m.1 in
      let o = and_true (leb (total a 2) 1) _ s.1 in
      record { header = h.0; times = t.0; lines = lines_are a n; least = leb-true 3307 _ d.0; most = leb-true (declared a) _ m.0; sums = record { main = eqb-true _ _ s.0; second = leb-true (total a 2) 1 o.0; all = eqb-true _ _ o.1 } }

  totals_are : below (counted_as a l) 8 ≡ true → (c : ℕ) → 1 ≤ c → c ≤ 8 → of_class a c (0 ∷ l) ≡ total a c
  totals_are t zero h k = absurd (omega arith)
  totals_are t (suc c) h k = eqb→eq (of_class a (suc c) (0 ∷ l)) (total a (suc c)) (R.at (counted_as a l) 8 (rw t tt) c (omega arith))

  pub product_meets : Meets a
  product_meets =
      let n = and_true (below (line_at a names) 72) _ (and_true (is_main a) _ e).1 in
      let r = and_true (is_records a 3307 1 l) _ n.1 in
      let t = and_true (below (counted_as a l) 8) _ r.1 in
      record { header = main_is n.0; list = l; records = records_are a 3307 1 l r.0; totals = totals_are t.0; come = eqb-true _ _ t.1 }

-- THE EXAMPLES ARE PRODUCTS
example_test : is_product example (3307 ∷ []) ≡ true
unfolding example product text headed timed_at be_at last_milli leap_day declared total sum number_of names rows fields widths kinds width_of kind_of line_start lead is_value is_number is_x run_of is_none is_digits is_moment moment_at last_second is_date is_class is_group may_follow first_after
example_test = refl

richer_test : is_product richer (3307 ∷ 3327 ∷ 3354 ∷ 3381 ∷ 3401 ∷ []) ≡ true
unfolding richer product text headed timed_at be_at last_milli leap_day declared total sum number_of names rows fields widths kinds width_of kind_of line_start lead is_value is_number is_x run_of is_none is_digits is_moment moment_at last_second is_date is_class is_group may_follow first_after
richer_test = refl

pub example_meets : Meets example
example_meets = product_meets example (3307 ∷ []) example_test

pub richer_meets : Meets richer
richer_meets = product_meets richer (3307 ∷ 3327 ∷ 3354 ∷ 3381 ∷ 3401 ∷ []) richer_test

-- ITS ROWS: of the two pointers the second has ordinal 1, of each other triple there is one record
pub richer_rows :
    rows_of richer (0 ∷ richer_meets.list)
    ≡ ((0 ∷ 3307 ∷ 1 ∷ 0 ∷ 0 ∷ 2 ∷ 0 ∷ [])
    ∷ (3307 ∷ 20 ∷ 2 ∷ 9 ∷ 0 ∷ 1 ∷ 0 ∷ [])
    ∷ (3327 ∷ 27 ∷ 3 ∷ 0 ∷ 0 ∷ 1 ∷ 0 ∷ [])
    ∷ (3354 ∷ 27 ∷ 3 ∷ 0 ∷ 0 ∷ 1 ∷ 1 ∷ [])
    ∷ (3381 ∷ 20 ∷ 5 ∷ 9 ∷ 1 ∷ 1 ∷ 0 ∷ [])
    ∷ (3401 ∷ 21 ∷ 8 ∷ 13 ∷ 1 ∷ 1 ∷ 0 ∷ [])
    ∷ [])
unfolding richer_meets product_meets richer product text be_at
richer_rows = refl

-- so whatever is right to say of the paper's, finished, with room for two, is that it is accepted with two records, at 0 and 3307
pub example_accepted :
    (rows rows' : List (List ℕ)) → 2 ≤ length rows → (r : Result ℕ Refusal) → FinishedIs example rows r rows'
    → (r ≡ Ok 2) × (rows' ≡ put 0 (rows_of example (0 ∷ 3307 ∷ [])) rows)
unfolding example_meets product_meets
example_accepted rows rows' h r f = meets_accepted example rows rows' example_meets h r f
