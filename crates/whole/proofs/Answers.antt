-- EVERY QUERY ANSWERS WHAT THE PRODUCT SAYS: each answer is the only right one (query's, demands' and listing's laws), and what it reads is what `parse`
-- reads. Assumes nothing.
use mathlib.Core.Path.{◌≡◌, refl, sym, ap, ◌∙◌}
use mathlib.Core.Bool.{Bool, true, false, cond}
use mathlib.Core.List.Memᴰ.{head as top}
use mathlib.Core.List.Memᴰ.{tail as pop}
use mathlib.Core.List.{List, [], ◌∷◌, ◌++◌, Memᴰ as In}
use Prim.Native.Nat.{ℕ, zero, suc, ◌+◌, ◌-◌, ◌≤◌, ◌<◌}
use native.Mathlib.Omega.{arith}
use borrow.Author.Tests.{le-leb}
use lib.Dec.{eqb}
use lib.ListN.{length, get_or, take, drop, replicate, length-replicate}
use Rattle.calendar.specs.Said.{answer}
use Rattle.meter.specs.General.{digits_of, general_at}
use Rattle.std.specs.declared.option.Option.TheVariants.{Some, None}
use Rattle.std.specs.declared.result.Result.TheVariants.{Ok}
use Rattle.std.specs.declared.option.Option.{Option}
use Rattle.std.specs.declared.result.Result.{Result}
use Rattle.calendar.specs.declared.Refusal.{Refusal}
use Rattle.std.specs.Prelude.{ℤ}
use Rattle.meter.specs.declared.general.Moment.{Moment}
use Rattle.query.specs.declared.GroundPoint.{GroundPoint}
use Rattle.query.specs.declared.Record.{Record}
use Rattle.query.specs.declared.Part.{Part}
use Rattle.query.specs.Found.{part_found}
use Rattle.query.specs.Found.{record_found}
use Rattle.record.specs.Header.{header_at}
use Rattle.record.specs.Pointer.{is_pointer, pointer_at, pointer_read_at}
use Rattle.record.specs.declared.header.Header.{Header}
use Rattle.record.specs.declared.pointer.Pointer.{Pointer}
use Rattle.text.specs.Field.{number_at}
use Rattle.text.specs.declared.Kind.{Kind}
use Rattle.text.specs.declared.Kind.TheVariants.{Text, Unsigned, Count, Signed, Time, LongTime}
use Rattle.mphr.specs.Layout.{bytes_of, width_of, kind_of, line_start}
use Rattle.mphr.specs.Lines.{is_long}
use Rattle.mphr.specs.Table.{declared}
use Rattle.judge.specs.Table.{class_at, size_at}
use Rattle.judge.specs.Table.{Judged}
use Rattle.judge.specs.declared.arrival.Arrival.{Arrival}
use Rattle.judge.specs.declared.arrival.Arrival.TheVariants.{Waiting}
use Rattle.judge.specs.Extent.{Covered}
use Rattle.finish.specs.Rows as Rows
use Rattle.finish.specs.Rows.{rows_after, rows_of}
use Rattle.finish.specs.Finish.{put, starts, VerdictIs, FinishedIs, Accepts}
use Rattle.demands.specs.Product.{class, size, IsRecord, Records, none, more, Meets}
use Rattle.demands.specs.Demands.{start}
use Rattle.demands.proofs.Accept.{complete_covered}
use Rattle.demands.proofs.Accepted.{meets_complete, covers, meets_accepted, unique_verdict}
use Rattle.demands.proofs.Prefix.{unique_arrival}
use Rattle.demands.proofs.Counting.{main_size, ends_whole, indexed}
use Rattle.query.specs.Query.{sort_of, times_of, Allowed, value_start, TextIs, number_in, NumberIs, TimeIs, latitude_field, point_of, PointIs, PointFound, RecordIs}
use Rattle.query.proofs.QueryDetermined.{unique_text_field, unique_number_field, unique_time_of, unique_ground_point}
use Rattle.query.proofs.QuerySays.{query_says}
use Rattle.query.proofs.LineAnswers.{come, main_clean}
use Rattle.listing.specs.Decimal.{column}
use Rattle.listing.specs.Listing.{line, lines, ListedIs, Lists}
use Rattle.listing.specs.Listing as Li
use Rattle.listing.proofs.Determined.{unique_list}
use Rattle.meter.specs.Integer.{Bytes}
use Rattle.whole.specs.Values.{Value, text, number, time, Rec, plain, pointer, Values, line_in, print, RightRec, RightPointer, Right}
use Rattle.whole.specs.Parse.{value_at, line_at, rec_at, recs_at, parse_at}
use Rattle.whole.specs.Answers.{heads, heads_of, starts_from, start_of, ordinal, rows_from, lines_from, listed, Answers}
use Rattle.whole.proofs.Parsed.{records_le, and_is, rec_head, recs_length, line_in_lem, parse_right}
use Rattle.whole.proofs.Printed.{print_meets}
use Rattle.whole.proofs.Back.{parse_print}
use Rattle.whole.proofs.OfBytes.{print_bytes}

-- ---- a value tells its kind
text_sort : (d : Kind) (a : List ℕ) (i w : ℕ) (t : List ℕ) → value_at d a i w ≡ text t → (sort_of d ≡ sort_of Text) × (take w (drop i a) ≡ t)
text_sort Text a i w t e = (refl, cc)
text_sort Unsigned a i w t e = let z : ◌≡◌ {A = ℕ} 0 1 = cc in absurd (omega arith)
text_sort Count a i w t e = let z : ◌≡◌ {A = ℕ} 0 1 = cc in absurd (omega arith)
text_sort Signed a i w t e = let z : ◌≡◌ {A = ℕ} 0 1 = cc in absurd (omega arith)
text_sort Time a i w t e = let z : ◌≡◌ {A = ℕ} 0 1 = cc in absurd (omega arith)
text_sort LongTime a i w t e = let z : ◌≡◌ {A = ℕ} 0 1 = cc in absurd (omega arith)

pub same_text : (s t : List ℕ) → text s ≡ text t → s ≡ t
same_text s t e = cc

pub same_number : (x y : Option ℤ) → number x ≡ number y → x ≡ y
same_number x y e = cc

pub same_time : (x y : Option Moment) → time x ≡ time y → x ≡ y
same_time x y e = cc

number_sort : (d : Kind) (a : List ℕ) (i w : ℕ) (x : Option ℤ) → value_at d a i w ≡ number x → (sort_of d ≡ sort_of Unsigned) × (number_at a i w ≡ x)
number_sort Text a i w x e = let z : ◌≡◌ {A = ℕ} 0 1 = cc in absurd (omega arith)
number_sort Unsigned a i w x e = (refl, same_number (number_at a i w) x e)
number_sort Count a i w x e = (refl, same_number (number_at a i w) x e)
number_sort Signed a i w x e = (refl, same_number (number_at a i w) x e)
number_sort Time a i w x e = let z : ◌≡◌ {A = ℕ} 0 1 = cc in absurd (omega arith)
number_sort LongTime a i w x e = let z : ◌≡◌ {A = ℕ} 0 1 = cc in absurd (omega arith)

time_sort : (d : Kind) (a : List ℕ) (i w : ℕ) (g : Option Moment) → value_at d a i w ≡ time g → (sort_of d ≡ times_of (is_long d)) × (general_at (digits_of (is_long d)) a i ≡ g)
unfolding is_long
time_sort Text a i w g e = let z : ◌≡◌ {A = ℕ} 0 1 = cc in absurd (omega arith)
time_sort Unsigned a i w g e = let z : ◌≡◌ {A = ℕ} 0 1 = cc in absurd (omega arith)
time_sort Count a i w g e = let z : ◌≡◌ {A = ℕ} 0 1 = cc in absurd (omega arith)
time_sort Signed a i w g e = let z : ◌≡◌ {A = ℕ} 0 1 = cc in absurd (omega arith)
time_sort Time a i w g e = (refl, same_time (general_at 14 a i) g e)
time_sort LongTime a i w g e = (refl, same_time (general_at 17 a i) g e)

-- ---- where the records start, and their headers
head_at : (a : List ℕ) (i : ℕ) → ((header_at a i).class ≡ class_at a i) × ((header_at a i).size ≡ size_at a i)
unfolding header_at
head_at a i = (refl, refl)

abbrev heads_at : List ℕ → List ℕ → List Header
heads_at a [] = []
heads_at a (i ∷ l) = header_at a i ∷ heads_at a l

heads_are : (a l : List ℕ) → heads (recs_at a l) ≡ heads_at a l
heads_are a [] = refl
heads_are a (i ∷ l) = rw (rec_head a i, heads_are a l)

heads_long : (a l : List ℕ) → length (heads_at a l) ≡ length l
heads_long a [] = refl
heads_long a (i ∷ l) = ap suc (heads_long a l)

heads_nth : (a l : List ℕ) (d : Header) (k : ℕ) → k < length l → get_or (heads_at a l) k d ≡ header_at a (get_or l k 0)
heads_nth a [] d k h = absurd (omega arith)
heads_nth a (i ∷ l) d zero h = refl
heads_nth a (i ∷ l) d (suc k) h = heads_nth a l d k (omega arith)

-- l are the starts of what follows i
data Chain (a : List ℕ) : ℕ → List ℕ → Type 0 where
  stop : {i : ℕ} → Chain a i []
  step : {i : ℕ} {l : List ℕ} → Chain a (i + size a i) l → Chain a i (i ∷ l)

chain_of : {a : List ℕ} {i p : ℕ} {l : List ℕ} → Records a i p l → Chain a i l
chain_of (none e) = stop
chain_of (more r m ts) = step (chain_of ts)

chain_starts : {a : List ℕ} {i : ℕ} {l : List ℕ} → Chain a i l → starts_from i (heads_at a l) ≡ l
chain_starts stop = refl
chain_starts {a} (step {i = i} {l = l} c) = ap (λ (n : ℕ). i ∷ starts_from (i + n) (heads_at a l)) (head_at a i).1 ∙ ap (λ (s : List ℕ). i ∷ s) (chain_starts c)

chain_nth : {a : List ℕ} {i : ℕ} {l : List ℕ} → Chain a i l → (n : ℕ) → start a n ≡ i → (j : ℕ) → j < length l → get_or l j 0 ≡ start a (n + j)
unfolding start
chain_nth stop n e j h = absurd (omega arith)
chain_nth {a} (step c) n e zero h = let z : n + 0 ≡ n = omega arith in rw z (sym e)
chain_nth {a} (step {i = i} c) n e (suc j) h =
    let z : suc n + j ≡ n + suc j = omega arith in
    rw z at (chain_nth c (suc n) (ap (λ (s : ℕ). s + size a s) e) j (omega arith))

-- ---- the rows
count_is : (a : List ℕ) (i : ℕ) (l : List ℕ) → ordinal (header_at a i) (heads_at a l) ≡ Rows.ordinal a l i
unfolding header_at
count_is a i [] = refl
count_is a i (j ∷ l) = rw (count_is a i l)

chain_rows : {a : List ℕ} {i : ℕ} {l : List ℕ} → (before : List ℕ) → Chain a i l → rows_from (heads_at a before) i (heads_at a l) ≡ rows_after a before l
unfolding header_at
chain_rows before stop = refl
chain_rows {a} before (step {i = i} {l = l} c) = rw (count_is a i before, chain_rows (i ∷ before) c)

-- ---- the listing
chain_lines : {a : List ℕ} {i : ℕ} {l : List ℕ} → Chain a i l → lines_from i (heads_at a l) ≡ lines a l
unfolding header_at lines line
chain_lines stop = refl
chain_lines {a} (step {i = i} {l = l} c) = rw (chain_lines c)

-- ---- OF A PRODUCT
module _ (a : List ℕ) (m : Meets a) where
  pub field_allowed : (k : ℕ) (d : Kind) → k < 72 → sort_of (kind_of k) ≡ sort_of d → Allowed a k (sort_of d)
  field_allowed k d h e = record { clean = main_clean m; come = come m; field = record { known = omega arith; sorted = e } }

  pub time_allowed : (k : ℕ) (long : Bool) → k < 72 → sort_of (kind_of k) ≡ times_of long → Allowed a k (times_of long)
  time_allowed k long h e = record { clean = main_clean m; come = come m; field = record { known = omega arith; sorted = e } }

  line_is : (k : ℕ) → k < 72 → (x : Value) → line_in (parse_at a m.list) k ≡ x → value_at (kind_of k) a (line_start k + 32) (width_of k) ≡ x
  unfolding line_at
  line_is k h x e = sym (line_in_lem a m.list k h) ∙ e

  texts : (k : ℕ) (t : List ℕ) → k < 72 → line_in (parse_at a m.list) k ≡ text t → (r : Result Part Refusal) → TextIs a k r → (r ≡ part_found (value_start k) (width_of k)) × (take (width_of k) (drop (value_start k) a) ≡ t)
  texts k t h e r f =
      let s = text_sort (kind_of k) a (line_start k + 32) (width_of k) t (line_is k h (text t) e) in
      (unique_text_field a k r (part_found (value_start k) (width_of k)) f (record { allowed = field_allowed k Text h s.0; start_is = refl; width_is = refl }), s.1)

  numbers : (k : ℕ) (x : Option ℤ) → k < 72 → line_in (parse_at a m.list) k ≡ number x → (r : Result (Option ℤ) Refusal) → NumberIs a k r → r ≡ Ok x
  numbers k x h e r f =
      let s = number_sort (kind_of k) a (line_start k + 32) (width_of k) x (line_is k h (number x) e) in
      unique_number_field a k r (Ok x) f (field_allowed k Unsigned h s.0, sym s.1)

  times : (k : ℕ) (g : Option Moment) → k < 72 → line_in (parse_at a m.list) k ≡ time g → (r : Result (Option Moment) Refusal) → TimeIs a k (is_long (kind_of k)) r → r ≡ Ok g
  times k g h e r f =
      let s = time_sort (kind_of k) a (line_start k + 32) (width_of k) g (line_is k h (time g) e) in
      unique_time_of a k (is_long (kind_of k)) r (Ok g) f (time_allowed k (is_long (kind_of k)) h s.0, sym s.1)

  latitude_small : (end : Bool) → latitude_field end + 1 < 72
  latitude_small true = omega arith
  latitude_small false = omega arith

  point_found : (end : Bool) (x y : Option ℤ) → PointFound a end (point_of x y) → PointIs a end (point_of x y)
  point_found end None y f = f
  point_found end (Some x) None f = f
  point_found end (Some x) (Some y) f = f

  points : (end : Bool) (x y : Option ℤ) → line_in (parse_at a m.list) (latitude_field end) ≡ number x → line_in (parse_at a m.list) (latitude_field end + 1) ≡ number y → (r : Result (Option GroundPoint) Refusal) → PointIs a end r → r ≡ point_of x y
  points end x y e f r q =
      let k = latitude_field end in
      let h = latitude_small end in
      let s = number_sort (kind_of k) a (line_start k + 32) (width_of k) x (line_is k (omega arith) (number x) e) in
      let t = number_sort (kind_of (k + 1)) a (line_start (k + 1) + 32) (width_of (k + 1)) y (line_is (k + 1) h (number y) f) in
      let p : point_of x y ≡ point_of (number_in a k) (number_in a (k + 1)) = ap (λ (z : Option ℤ). point_of z y) (sym s.1) ∙ ap (point_of (number_in a k)) (sym t.1) in
      unique_ground_point a end r (point_of x y) q (point_found end x y (record { allowed = field_allowed k Unsigned (omega arith) s.0; point = p }))

  -- the records
  first_size : size a 0 ≡ 3307
  first_size = main_size a m.header.header

  chain : Chain a 0 (0 ∷ m.list)
  chain = let e : 0 + size a 0 ≡ 3307 = omega (arith, first_size) in step {i = 0} {l = m.list} (rw e (chain_of m.records))

  said_heads : heads_of (parse_at a m.list) ≡ heads_at a (0 ∷ m.list)
  said_heads = ap (λ (l : List Header). header_at a 0 ∷ l) (heads_are a m.list)

  said : length (heads_of (parse_at a m.list)) ≡ suc (length m.list)
  said = ap length said_heads ∙ heads_long a (0 ∷ m.list)

  pub said_starts : starts_from 0 (heads_of (parse_at a m.list)) ≡ 0 ∷ m.list
  said_starts = ap (starts_from 0) said_heads ∙ chain_starts chain

  pub nth_start : (k : ℕ) → k < suc (length m.list) → get_or (0 ∷ m.list) k 0 ≡ start a k
  unfolding start
  nth_start k h = let z : 0 + k ≡ k = omega arith in rw z at (chain_nth chain 0 refl k h)

  records : (k : ℕ) → k < length (heads_of (parse_at a m.list)) → (r : Result Record Refusal) → RecordIs a k r → r ≡ record_found (start_of (parse_at a m.list) k) (get_or (heads_of (parse_at a m.list)) k (header_at a 0))
  records k h r q =
      let c = complete_covered (meets_complete m) in
      let w = covers m c.1 in
      let blank : List (List ℕ) = replicate c.0 [] in
      let n : length blank ≡ c.0 = length-replicate {A = List ℕ} c.0 [] in
      let f : Accepts a blank c.0 (put 0 (rows_of a (0 ∷ starts c.1.way)) blank) = record { complete = meets_complete m; filled = record { covered = c.1; fits = omega arith; index = refl } } in
      let l : k < suc (length m.list) = omega (arith, said) in
      let u : k < c.0 = omega (arith, w.0) in
      let s = indexed (meets_complete m) f.filled k u in
      let t : start a k ≡ start_of (parse_at a m.list) k = sym (nth_start k l) ∙ ap (λ (x : List ℕ). get_or x k 0) (sym said_starts) in
      let g : header_at a (start a k) ≡ get_or (heads_of (parse_at a m.list)) k (header_at a 0) = ap (header_at a) (sym (nth_start k l)) ∙ sym (heads_nth a (0 ∷ m.list) (header_at a 0) k l) ∙ ap (λ (x : List Header). get_or x k (header_at a 0)) (sym said_heads) in
      query_says f k u r q
      ∙ ap (λ (i : ℕ). record_found i (header_at a i)) s
      ∙ ap (λ (x : Header). record_found (start a k) x) g
      ∙ ap (λ (i : ℕ). record_found i (get_or (heads_of (parse_at a m.list)) k (header_at a 0))) t

  verdict : (r : Result ℕ Refusal) → VerdictIs a r → r ≡ Ok (length (heads_of (parse_at a m.list)))
  verdict r f =
      let c = complete_covered (meets_complete m) in
      unique_verdict a r (Ok c.0) f (meets_complete m, c.1) ∙ ap Ok ((covers m c.1).0 ∙ sym said)

  arrival : (r : Arrival) → Judged a r → r ≡ Waiting (length (heads_of (parse_at a m.list))) (length a)
  arrival r f =
      let c = complete_covered (meets_complete m) in
      unique_arrival a r (Waiting c.0 c.1.last.at) f (ends_whole (meets_complete m) c.1)
      ∙ ap (λ (n : ℕ). Waiting n c.1.last.at) ((covers m c.1).0 ∙ sym said)
      ∙ ap (Waiting (length (heads_of (parse_at a m.list)))) (c.1.ends ∙ sym m.come)

  rows : (rows rows' : List (List ℕ)) → length (heads_of (parse_at a m.list)) ≤ length rows → (r : Result ℕ Refusal) → FinishedIs a rows r rows' → (r ≡ Ok (length (heads_of (parse_at a m.list)))) × (rows' ≡ put 0 (rows_from [] 0 (heads_of (parse_at a m.list))) rows)
  rows old new h r f =
      let x = meets_accepted a old new m (omega (arith, said)) r f in
      let e : rows_from [] 0 (heads_of (parse_at a m.list)) ≡ rows_of a (0 ∷ m.list) = ap (rows_from [] 0) said_heads ∙ chain_rows [] chain in
      (x.0 ∙ ap Ok (sym said), x.1 ∙ ap (λ (l : List (List ℕ)). put 0 l old) (sym e))

  listing_is : {c : ℕ} (w : Covered a c) → Li.listing w ≡ listed (parse_at a m.list)
  listing_is {c} w =
      let e = covers m w in
      let l : lines_from 0 (heads_of (parse_at a m.list)) ≡ lines a (0 ∷ m.list) = ap (lines_from 0) said_heads ∙ chain_lines chain in
      ap (λ (n : ℕ). (bytes_of "records " ++ column n 10) ++ lines a (0 ∷ starts w.way)) (e.0 ∙ sym said)
      ∙ ap (λ (s : List ℕ). (bytes_of "records " ++ column (length (heads_of (parse_at a m.list))) 10) ++ lines a (0 ∷ s)) e.1
      ∙ ap (λ (s : List ℕ). (bytes_of "records " ++ column (length (heads_of (parse_at a m.list))) 10) ++ s) (sym l)

  listing : (room exit : List ℕ) → length a ≤ 65536 → length (listed (parse_at a m.list)) ≤ length room → (r : Result ℕ Refusal) → ListedIs a room r exit → (r ≡ Ok (length (listed (parse_at a m.list)))) × (exit ≡ listed (parse_at a m.list) ++ drop (length (listed (parse_at a m.list))) room)
  listing room exit h l r f =
      let c = complete_covered (meets_complete m) in
      let e = listing_is c.1 in
      let t = listed (parse_at a m.list) in
      let g : Lists a room (length t) (t ++ drop (length t) room) = record {
        small = h;
        complete = meets_complete m;
        count = c.0;
        covered = c.1;
        wrote = record { bytes = ap length (sym e); fits = l; text_is = ap (λ (s : List ℕ). s ++ drop (length t) room) (sym e) };
      } in
      unique_list a room r (Ok (length t)) exit (t ++ drop (length t) room) f g

-- ---- the pointers
pointer_parts : (a : List ℕ) (i : ℕ) (p : Pointer) → rec_at a i ≡ pointer p → pointer_at a i ≡ p
unfolding rec_at
pointer_parts a i p e = go (eqb (class a i) 3) e
  where
    go : (b : Bool) → cond b (pointer (pointer_at a i)) (plain (header_at a i) (take (size a i - 20) (drop (i + 20) a))) ≡ pointer p → pointer_at a i ≡ p
    go true e = cc
    go false e = let z : ◌≡◌ {A = ℕ} 0 1 = cc in absurd (omega arith)

pub nth_rec : (a l : List ℕ) (d : Rec) (k : ℕ) → k < length l → get_or (recs_at a l) k d ≡ rec_at a (get_or l k 0)
nth_rec a [] d k h = absurd (omega arith)
nth_rec a (i ∷ l) d zero h = refl
nth_rec a (i ∷ l) d (suc k) h = nth_rec a l d k (omega arith)

nth_right : (l : List Rec) (d : Rec) → ((x : Rec) → In x l → RightRec x) → (k : ℕ) → k < length l → RightRec (get_or l k d)
nth_right [] d f k h = absurd (omega arith)
nth_right (x ∷ l) d f zero h = f x (top refl)
nth_right (x ∷ l) d f (suc k) h = nth_right l d (λ y n. f y (pop n)) k (omega arith)

pub is_pointer_lem : (p : Pointer) → RightPointer p → is_pointer p ≡ true
unfolding is_pointer
is_pointer_lem p r = and_is r.header.form (rw (r.is_class, r.is_size))

size_is : (a : List ℕ) (i : ℕ) (p : Pointer) → pointer_at a i ≡ p → size a i ≡ p.header.size
unfolding pointer_at header_at
size_is a i p e = ap (λ (x : Pointer). x.header.size) e

pub nth_come : {a : List ℕ} {i p : ℕ} {l : List ℕ} → Records a i p l → (k : ℕ) → k < length l → get_or l k 0 + size a (get_or l k 0) ≤ declared a
nth_come (none e) k h = absurd (omega arith)
nth_come (more x m ts) zero h = records_le ts
nth_come (more x m ts) (suc k) h = nth_come ts k (omega arith)

pub nth_is : {a : List ℕ} {i p : ℕ} {l : List ℕ} → Records a i p l → (k : ℕ) → k < length l → (q : ℕ) × IsRecord a q (get_or l k 0)
nth_is (none e) k h = absurd (omega arith)
nth_is (more {p = p} x m ts) zero h = (p, x)
nth_is (more x m ts) (suc k) h = nth_is ts k (omega arith)

-- THE LAW
module _ (a : List ℕ) (bs : Bytes a) (m : Meets a) where
  targets : (k : ℕ) (p : Pointer) → k < length (recs_at a m.list) → get_or (recs_at a m.list) k (pointer p) ≡ pointer p → pointer_read_at a (start_of (parse_at a m.list) (suc k)) ≡ answer p
  targets k p h e =
      let l : k < length m.list = omega (arith, recs_length a m.list) in
      let i = get_or m.list k 0 in
      let s : start_of (parse_at a m.list) (suc k) ≡ i = ap (λ (x : List ℕ). get_or x (suc k) 0) (said_starts a m) in
      let q : pointer_at a i ≡ p = pointer_parts a i p (sym (nth_rec a m.list (pointer p) k l) ∙ e) in
      let r : RightPointer p = rw e at (nth_right (recs_at a m.list) (pointer p) (parse_right a bs m).records k h) in
      let z : size a i ≡ 27 = size_is a i p q ∙ r.is_size in
      rw (s, le-leb (i + 27) (length a) (omega (arith, nth_come m.records k l, m.come)), q, is_pointer_lem p r)

  pub answers : Answers a (parse_at a m.list)
  answers = record { verdict = verdict a m; arrival = arrival a m; texts = texts a m; numbers = numbers a m; times = times a m; points = points a m; records = records a m; targets = targets; rows = rows a m; listing = listing a m }

pub print_answers : (v : Values) → Right v → Answers (print v) v
print_answers v r = rw (parse_print v r (print_meets v r)) at (answers (print v) (print_bytes v r) (print_meets v r))
