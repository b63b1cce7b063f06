-- WHAT A PRODUCT SAYS IS RIGHT, whatever its spelling: its header, each line's value, its records, their order and pointers, its size and totals. A field of
-- bytes is below its power of 256. Assumes nothing.
use mathlib.Core.Path.{◌≡◌, refl, sym, ap, ◌∙◌}
use mathlib.Core.Bool.{Bool, true, false, true≢false, cond, ◌&&◌, ◌||◌}
use mathlib.Core.List.Memᴰ.{head as top}
use mathlib.Core.List.Memᴰ.{not-nil as nil}
use mathlib.Core.List.Memᴰ.{tail as pop}
use mathlib.Core.List.{List, [], ◌∷◌, Memᴰ as In}
use Prim.Native.Nat.{ℕ, zero, suc, ◌+◌, ◌-◌, ◌/◌, ◌%◌, ◌≤◌, ◌<◌}
use native.Mathlib.Decide.{dec_lt}
use native.Mathlib.Omega.{arith}
use borrow.Author.Tests.{eq-eqb, ne_eqb, eqb-true, eqb-false, le-leb, not-true}
use lib.Dec.{T, eqb, leb, ltb}
use lib.ListN.{length, get_or, take, drop, length-take, length-drop, get_or-eq_default as past}
use lib.Seq.{length-take-le, get_or-take, get_or-drop}
use Rattle.calendar.proofs.Range.{below, at}
use Rattle.meter.specs.Integer.{Bytes, be_at}
use Rattle.meter.specs.Time.{is_time, time_at, compared}
use Rattle.meter.specs.General.{number_of, digits_of}
use Rattle.std.specs.declared.option.Option.TheVariants.{Some, None}
use Rattle.meter.specs.Instant as T
use Rattle.meter.proofs.IntegerLaws.{be_at_lt}
use Rattle.meter.proofs.GeneralRuns.{and_true}
use Rattle.record.specs.Header.{is_class, is_group, is_lead, is_header, header_at}
use Rattle.record.specs.Pointer.{pointer_at}
use Rattle.record.specs.Times.{is_after, timed_at}
use Rattle.record.specs.declared.header.Header.{Header}
use Rattle.record.specs.declared.pointer.Pointer.{Pointer}
use Rattle.record.proofs.FieldLaws.{both}
use Rattle.text.specs.Field.{is_x, is_number, integer_of, number_at, is_value}
use Rattle.text.specs.Writing.{fits_number}
use Rattle.text.specs.declared.Kind.{Kind}
use Rattle.text.specs.declared.Kind.TheVariants.{Text, Unsigned, Count, Signed, Time, LongTime}
use Rattle.text.proofs.Meaning.{number_means}
use Rattle.text.proofs.Exact.{not_x, integer_unsigned}
use Rattle.text.proofs.Alike.{Alike, value_alike}
use Rattle.mphr.specs.Layout.{fields, widths, kinds, code_of, kind_from, width_of, kind_of, line_start}
use Rattle.mphr.specs.Table.{headed, valued, declared, total, sum}
use Rattle.mphr.specs.Lines.{text_fits, number_fits, time_fits, is_long}
use Rattle.mphr.proofs.LayoutLaws.{start_next, start_mono, start_72, kind_back}
use Rattle.demands.specs.Product.{class, group, size, offset, IsRecord, Aims, Records, none, more, of_class, Meets}
use Rattle.demands.proofs.ProductLaws.{alike_bytes}
use Rattle.parts.proofs.HeaderLaws.{two_least}
use Rattle.judge.proofs.RankLaws.{class_most}
use Rattle.meter.specs.Time.{InDays}
use Rattle.whole.specs.Values.{Value, text, number, time, Rec, plain, pointer, head_of, fits, RightHeader, RightPlain, RightPointer, RightRec, Ordered, Meant, here, there, Aimed, bytes, count, line_in, whole, Right}
use Rattle.whole.specs.Values as Say
use Rattle.whole.specs.Parse.{value_at, line_at, lines_at, rec_at, recs_at, parse_at}
use Rattle.whole.proofs.Numbers.{spelled_of}
use Rattle.whole.proofs.Moments.{general_fits}
use Rattle.whole.proofs.Printed.{counts_all}

pub left_true : (x y : Bool) → x || y ≡ true → y ≡ false → x ≡ true
left_true true y e f = refl
left_true false y e f = absurd (true≢false (sym e ∙ f))

pub and_is : {x y : Bool} → x ≡ true → y ≡ true → x && y ≡ true
and_is e f = rw (e, f)

-- ---- A HEADER
module _ (a : List ℕ) (bs : Bytes a) where
  in_days : (p : ℕ) → InDays (time_at a p)
  in_days p = go (eqb (be_at a p 6) 0xffff_ffff_ffff)
    where
      go : (b : Bool) → InDays (cond b None (T.At (be_at a p 6 / 0x1_0000_0000) (be_at a p 6 % 0x1_0000_0000)))
      go true = tt
      go false = omega (arith, be_at_lt a bs p 6)

  pub right_header : (i : ℕ) → is_class (class a i) ≡ true → is_group (group a i) ≡ true → 20 ≤ size a i → timed_at a i ≡ true → RightHeader (header_at a i)
  unfolding header_at is_header is_lead timed_at
  right_header i c g z t =
      let p = both (is_time (time_at a (i + 8)) && is_time (time_at a (i + 14))) _ t in
      let q = both (is_time (time_at a (i + 8))) (is_time (time_at a (i + 14))) p.0 in
      record {
        form = and_is (and_is c (and_is g (le-leb 20 (size a i) z))) (and_is q.0 q.1);
        subclass = bs (i + 2);
        version = bs (i + 3);
        size = be_at_lt a bs (i + 4) 4;
        start = in_days (i + 8);
        stop = in_days (i + 14);
        timed = not-true (is_after (compared (time_at a (i + 8)) (time_at a (i + 14)))) p.1;
      }

  part_bytes : (n i : ℕ) → Bytes (take n (drop i a))
  part_bytes n i k = go (dec_lt k (length (take n (drop i a))))
    where
      go : Dec (k < length (take n (drop i a))) → get_or (take n (drop i a)) k 0 < 256
      go (yes h) = let l : k < n = omega (arith, length-take n (drop i a)) in rw (get_or-take n (drop i a) k 0 l, get_or-drop i a k 0) (bs (i + k))
      go (no h) = rw (past (take n (drop i a)) 0 {n = k} (omega (arith, h))) (omega arith)

-- ---- A RECORD
pub records_le : {a : List ℕ} {i p : ℕ} {l : List ℕ} → Records a i p l → i ≤ declared a
records_le (none e) = omega arith
records_le (more r _ ts) = omega (arith, r.least, records_le ts)

head_fields : (a : List ℕ) (i : ℕ) → ((header_at a i).class ≡ class a i) × ((header_at a i).group ≡ group a i) × ((header_at a i).subclass ≡ get_or a (i + 2) 0) × ((header_at a i).size ≡ size a i)
unfolding header_at
head_fields a i = (refl, refl, refl, refl)

pub rec_head : (a : List ℕ) (i : ℕ) → head_of (rec_at a i) ≡ header_at a i
unfolding rec_at pointer_at
rec_head a i = go (eqb (class a i) 3)
  where
    go : (b : Bool) → head_of (cond b (pointer (pointer_at a i)) (plain (header_at a i) (take (size a i - 20) (drop (i + 20) a)))) ≡ header_at a i
    go true = refl
    go false = refl

-- what a record that is parsed aims at, if it is a pointer
one : (a : List ℕ) (i k : ℕ) (l : List Rec) → (class a i ≡ 3 → Meant k l (pointer_at a i)) → Say.Aims (rec_at a i) k l
unfolding rec_at
one a i k l f = go (eqb (class a i) 3) refl
  where
    go : (b : Bool) → eqb (class a i) 3 ≡ b → Say.Aims (cond b (pointer (pointer_at a i)) (plain (header_at a i) (take (size a i - 20) (drop (i + 20) a)))) k l
    go true e = f (eqb-true (class a i) 3 e)
    go false e = tt

module _ (a : List ℕ) (bs : Bytes a) where
  right_pointer : {p i : ℕ} {l : List ℕ} → IsRecord a p i → Aims a l i → class a i ≡ 3 → RightPointer (pointer_at a i)
  unfolding pointer_at header_at
  right_pointer {p} {i} {l} r m c = record {
    header = right_header a bs i r.known r.grouped r.least r.times;
    is_class = c;
    is_size = r.ipr c;
    four = m.four;
    eight = m.eight;
    group = bs (i + 21);
    subclass = bs (i + 22);
    offset = be_at_lt a bs (i + 23) 4;
  }

  right_plain : {p i : ℕ} → IsRecord a p i → i + size a i ≤ length a → (class a i ≡ 3 → ⊥) → RightPlain (header_at a i) (take (size a i - 20) (drop (i + 20) a))
  unfolding header_at
  right_plain {p} {i} r l c =
      let n : length (take (size a i - 20) (drop (i + 20) a)) ≡ size a i - 20 = length-take-le (size a i - 20) (drop (i + 20) a) (omega (arith, length-drop (i + 20) a, r.least)) in
      record { header = right_header a bs i r.known r.grouped r.least r.times; other = c; sized = omega (arith, r.least); bytes = part_bytes a bs (size a i - 20) (i + 20) }

  pub right_rec : {p i : ℕ} {l : List ℕ} → IsRecord a p i → (class a i ≡ 3 → Aims a l i) → i + size a i ≤ length a → RightRec (rec_at a i)
  unfolding rec_at
  right_rec {p} {i} {l} r m h = go (eqb (class a i) 3) refl
    where
      go : (b : Bool) → eqb (class a i) 3 ≡ b → RightRec (cond b (pointer (pointer_at a i)) (plain (header_at a i) (take (size a i - 20) (drop (i + 20) a))))
      go true e = let c = eqb-true (class a i) 3 e in right_pointer r (m c) c
      go false e = right_plain r h (eqb-false (class a i) 3 e)

  module _ (come : length a ≡ declared a) where
    recs_right : {i p : ℕ} {l : List ℕ} → Records a i p l → (r : Rec) → In r (recs_at a l) → RightRec r
    recs_right (none e) r h = absurd (nil h)
    recs_right (more x m ts) r (top e) = rw e (right_rec x m (omega (arith, records_le ts)))
    recs_right (more x m ts) r (pop h) = recs_right ts r h

  rec_class : (i : ℕ) → (head_of (rec_at a i)).class ≡ class a i
  rec_class i = ap (λ (h : Header). h.class) (rec_head a i) ∙ (head_fields a i).0

  pub rec_size : (i : ℕ) → (head_of (rec_at a i)).size ≡ size a i
  rec_size i = ap (λ (h : Header). h.size) (rec_head a i) ∙ (head_fields a i).3

  recs_order : {i p : ℕ} {l : List ℕ} → Records a i p l → Ordered p (recs_at a l)
  recs_order (none e) = tt
  recs_order (more {i = i} x m ts) = rw (rec_class i) (x.ordered, recs_order ts)

  meant : {i p t : ℕ} {l : List ℕ} (q : Pointer) → Records a i p l → In t l → q.offset ≡ t → class a t ≡ q.class → group a t ≡ q.group → get_or a (t + 2) 0 ≡ q.subclass → Meant i (recs_at a l) q
  meant q (none e) h o c g s = absurd (nil h)
  meant q (more {i = i} x m ts) (top e) o c g s =
      let k = head_fields a i in
      let w = rec_head a i in
      here (o ∙ e) (ap (λ (h : Header). h.class) w ∙ k.0 ∙ ap (class a) (sym e) ∙ c) (ap (λ (h : Header). h.group) w ∙ k.1 ∙ ap (group a) (sym e) ∙ g)
      (ap (λ (h : Header). h.subclass) w ∙ k.2 ∙ ap (λ (n : ℕ). get_or a (n + 2) 0) (sym e) ∙ s)
  meant q (more {i = i} x m ts) (pop h) o c g s = there (rw (sym (rec_size i)) at (meant q ts h o c g s))

  aims_of : {i p : ℕ} {l : List ℕ} → Records a (i + size a i) p l → Aims a l i → Meant (i + size a i) (recs_at a l) (pointer_at a i)
  unfolding pointer_at
  aims_of {i} {p} {l} ts m =
      let b = alike_bytes a l i bs m in
      let z : offset a i + 0 ≡ offset a i = omega arith in
      let u : i + 20 + 0 ≡ i + 20 = omega arith in
      let v : i + 20 + 1 ≡ i + 21 = omega arith in
      let w : i + 20 + 2 ≡ i + 22 = omega arith in
      meant (pointer_at a i) ts m.later refl (rw (z, u) at (b 0 (omega arith))) (rw v at (b 1 (omega arith))) (rw w at (b 2 (omega arith)))

  recs_aimed : {i p : ℕ} {l : List ℕ} → Records a i p l → Aimed i (recs_at a l)
  recs_aimed (none e) = tt
  recs_aimed (more {i = i} {l = l} x m ts) = rw (rec_size i) (one a i (i + size a i) (recs_at a l) (λ c. aims_of ts (m c)), recs_aimed ts)

  recs_bytes : {i p : ℕ} {l : List ℕ} → Records a i p l → i + bytes (recs_at a l) ≡ declared a
  recs_bytes (none e) = omega arith
  recs_bytes (more {i = i} x m ts) = omega (arith, rec_size i, recs_bytes ts)

  recs_count : (c : ℕ) (l : List ℕ) → count c (recs_at a l) ≡ of_class a c l
  recs_count c [] = refl
  recs_count c (i ∷ l) = rw (rec_class i, recs_count c l)

  recs_classes : {i p : ℕ} {l : List ℕ} → Records a i p l → (r : Rec) → In r (recs_at a l) → (2 ≤ (head_of r).class) × ((head_of r).class ≤ 8)
  recs_classes (none e) r h = absurd (nil h)
  recs_classes (more {i = i} {p = p} x m ts) r (top e) = rw (e, rec_class i) (two_least p (class a i) x.ordered, (class_most (class a i) x.known).1)
  recs_classes (more x m ts) r (pop h) = recs_classes ts r h

pub recs_length : (a l : List ℕ) → length (recs_at a l) ≡ length l
recs_length a [] = refl
recs_length a (i ∷ l) = ap suc (recs_length a l)

-- ---- A LINE
abbrev pub fits_by : Kind → ℕ → Value → Bool
fits_by d w (text t) = text_fits d w t
fits_by d w (number x) = number_fits d w x
fits_by d w (time g) = time_fits d g

pub fits_is : (k : ℕ) (x : Value) → fits k x ≡ fits_by (kind_of k) (width_of k) x
fits_is k (text t) = refl
fits_is k (number x) = refl
fits_is k (time g) = refl

-- the w bytes from i on, taken out
pub taken_alike : (a : List ℕ) (i w : ℕ) → Alike a (take w (drop i a)) i 0 w
taken_alike a i w = record { byte = λ j h. let z : 0 + j ≡ j = omega arith in rw z (sym (get_or-take w (drop i a) j 0 h ∙ get_or-drop i a j 0)) }

-- a number's field is 1 to 17 wide: one test over the 72
abbrev is_numbers : Kind → Bool
is_numbers d = ltb 0 (code_of d) && ltb (code_of d) 4

abbrev number_wide : ℕ → Bool
number_wide k = cond (is_numbers (kind_of k)) (ltb 0 (width_of k) && leb (width_of k) 17) true

numbers_wide : T (below number_wide 72)
unfolding kind_of kinds width_of widths fields
numbers_wide = tt

is_true : (b : Bool) → T b → b ≡ true
is_true true t = refl
is_true false t = absurd t

-- and a time's is as wide as its digits and one more
abbrev pub timed : Kind → Bool
timed d = ltb 3 (code_of d)

abbrev time_wide : ℕ → Bool
time_wide k = cond (timed (kind_of k)) (eqb (digits_of (is_long (kind_of k)) + 1) (width_of k)) true

times_wide : T (below time_wide 72)
unfolding is_long kind_of kinds width_of widths fields
times_wide = tt

pub timed_wide : (k : ℕ) → k < 72 → timed (kind_of k) ≡ true → digits_of (is_long (kind_of k)) + 1 ≡ width_of k
timed_wide k h e = eqb-true _ _ (is_true _ (rw e at (at time_wide 72 times_wide k h)))

pub width_of_lem : (k : ℕ) → k < 72 → is_numbers (kind_of k) ≡ true → ltb 0 (width_of k) && leb (width_of k) 17 ≡ true
width_of_lem k h e = is_true _ (rw e at (at number_wide 72 numbers_wide k h))

module _ (a : List ℕ) (i w : ℕ) where
  number_fits_lem : (signed : Bool) → ltb 0 w && leb w 17 ≡ true → is_number signed a i w || is_x a i w ≡ true → fits_number signed w (number_at a i w) ≡ true
  number_fits_lem signed f e = go (is_x a i w) refl
    where
      go : (b : Bool) → is_x a i w ≡ b → fits_number signed w (cond b None (Some (integer_of a i w))) ≡ true
      go true x = f
      go false x = and_is f (spelled_of signed a i w (number_means signed a i w (left_true (is_number signed a i w) (is_x a i w) e x)))

  count_fits : ltb 0 w && leb w 17 ≡ true → is_number false a i w ≡ true → number_fits Count w (number_at a i w) ≡ true
  unfolding number_fits
  count_fits f e = rw (not_x false a i w e) (and_is f (spelled_of false a i w (number_means false a i w e)))

  value_fits : (d : Kind) → (is_numbers d ≡ true → ltb 0 w && leb w 17 ≡ true) → i + w ≤ length a → is_value d a i w ≡ true → fits_by d w (value_at d a i w) ≡ true
  unfolding is_value text_fits number_fits time_fits
  value_fits Text f h e =
      let n : length (take w (drop i a)) ≡ w = length-take-le w (drop i a) (omega (arith, length-drop i a)) in
      and_is (eq-eqb (length (take w (drop i a))) w n) (sym (value_alike (taken_alike a i w) Text) ∙ e)
  value_fits Unsigned f h e = number_fits_lem false (f refl) e
  value_fits Count f h e = count_fits (f refl) e
  value_fits Signed f h e = number_fits_lem true (f refl) e
  value_fits Time f h e = general_fits false a i (and_true (eqb w 15) _ e).1
  value_fits LongTime f h e = general_fits true a i (and_true (eqb w 18) _ e).1

-- ---- THE LINES
pub lines_length : (a : List ℕ) (k n : ℕ) → length (lines_at a k n) ≡ n
lines_length a k zero = refl
lines_length a k (suc n) = ap suc (lines_length a (suc k) n)

lines_from : (a : List ℕ) (d : Value) (k n j : ℕ) → j < n → get_or (lines_at a k n) j d ≡ line_at a (k + j)
lines_from a d k zero j h = absurd (omega arith)
lines_from a d k (suc n) zero h = let z : k + 0 ≡ k = omega arith in rw z
lines_from a d k (suc n) (suc j) h = let z : suc k + j ≡ k + suc j = omega arith in rw z at (lines_from a d (suc k) n j (omega arith))

pub line_in_lem : (a l : List ℕ) (k : ℕ) → k < 72 → line_in (parse_at a l) k ≡ line_at a k
line_in_lem a l k h = let z : 0 + k ≡ k = omega arith in rw z at (lines_from a (text []) 0 72 k h)

-- the size and the totals
count_value : (d : Kind) (a : List ℕ) (i w : ℕ) → d ≡ Count → is_value d a i w ≡ true → value_at d a i w ≡ whole (number_of a i w)
unfolding is_value
count_value Text a i w q e = let z : code_of Text ≡ code_of Count = ap code_of q in absurd (omega arith)
count_value Unsigned a i w q e = let z : code_of Unsigned ≡ code_of Count = ap code_of q in absurd (omega arith)
count_value Count a i w q e = rw (not_x false a i w e, integer_unsigned a i w e)
count_value Signed a i w q e = let z : code_of Signed ≡ code_of Count = ap code_of q in absurd (omega arith)
count_value Time a i w q e = let z : code_of Time ≡ code_of Count = ap code_of q in absurd (omega arith)
count_value LongTime a i w q e = let z : code_of LongTime ≡ code_of Count = ap code_of q in absurd (omega arith)

size_kind : kind_of 28 ≡ Count
unfolding kind_of kinds fields
size_kind = refl

abbrev is_count : ℕ → Bool
is_count j = eqb (code_of (kind_of (55 + j))) 2

total_test : T (below is_count 9)
unfolding kind_of kinds fields
total_test = tt

total_kind : (j : ℕ) → j < 9 → kind_of (55 + j) ≡ Count
total_kind j h = sym (kind_back (kind_of (55 + j))) ∙ ap kind_from (eqb-true (code_of (kind_of (55 + j))) 2 (is_true _ (at is_count 9 total_test j h))) ∙ kind_back Count

-- ---- THE LAW
headed_parts : (a : List ℕ) → headed a ≡ true → (class a 0 ≡ 1) × (group a 0 ≡ 0) × (get_or a 2 0 ≡ 0) × (size a 0 ≡ 3307)
unfolding headed
headed_parts a e =
    let p = both (eqb (get_or a 0 0) 1 && (eqb (get_or a 1 0) 0 && eqb (get_or a 2 0) 0)) (eqb (be_at a 4 4) 3307) e in
    let q = both (eqb (get_or a 0 0) 1) (eqb (get_or a 1 0) 0 && eqb (get_or a 2 0) 0) p.0 in
    let r = both (eqb (get_or a 1 0) 0) (eqb (get_or a 2 0) 0) q.1 in
    (eqb-true (get_or a 0 0) 1 q.0, eqb-true (get_or a 1 0) 0 r.0, eqb-true (get_or a 2 0) 0 r.1, eqb-true (be_at a 4 4) 3307 p.1)

known_class : (c : ℕ) → c ≡ 1 → is_class c ≡ true
unfolding is_class
known_class c e = rw e

known_group : (g : ℕ) → g ≡ 0 → is_group g ≡ true
unfolding is_group
known_group g e = rw e

pub line_come : (a : List ℕ) → Meets a → (k : ℕ) → k < 72 → line_start k + 32 + width_of k ≤ length a
line_come a m k h = omega (arith, start_next k, start_mono {j = suc k} {k = 72} h, start_72, m.come, m.header.least)

module _ (a : List ℕ) (bs : Bytes a) (m : Meets a) where
  first : (class a 0 ≡ 1) × (group a 0 ≡ 0) × (get_or a 2 0 ≡ 0) × (size a 0 ≡ 3307)
  first = headed_parts a m.header.header

  pub line_fits : (k : ℕ) → k < 72 → fits k (line_at a k) ≡ true
  unfolding line_at valued
  line_fits k h =
      fits_is k (value_at (kind_of k) a (line_start k + 32) (width_of k))
      ∙ value_fits a (line_start k + 32) (width_of k) (kind_of k) (width_of_lem k h) (line_come a m k h) (m.header.lines k h).1

  count_line : (k : ℕ) → k < 72 → kind_of k ≡ Count → line_in (parse_at a m.list) k ≡ whole (number_of a (line_start k + 32) (width_of k))
  unfolding line_at valued
  count_line k h c = line_in_lem a m.list k h ∙ count_value (kind_of k) a (line_start k + 32) (width_of k) c (m.header.lines k h).1

  total_line : (c : ℕ) → c ≤ 8 → line_in (parse_at a m.list) (55 + c) ≡ whole (total a c)
  unfolding total
  total_line c h = count_line (55 + c) (omega arith) (total_kind c (omega arith))

  size_line : line_in (parse_at a m.list) 28 ≡ whole (declared a)
  unfolding declared
  size_line = count_line 28 (omega arith) size_kind

  count_later : (c : ℕ) → 2 ≤ c → c ≤ 8 → total a c ≡ count c (recs_at a m.list)
  count_later c h l = sym (m.totals c (omega arith) l) ∙ rw (first.0, ne_eqb 1 c (λ e. omega arith)) (omega (arith, recs_count a bs c m.list))

  pub all_counted : total a 0 ≡ suc (length (recs_at a m.list))
  unfolding sum
  all_counted =
      let t2 = count_later 2 (omega arith) (omega arith) in
      let t3 = count_later 3 (omega arith) (omega arith) in
      let t4 = count_later 4 (omega arith) (omega arith) in
      let t5 = count_later 5 (omega arith) (omega arith) in
      let t6 = count_later 6 (omega arith) (omega arith) in
      let t7 = count_later 7 (omega arith) (omega arith) in
      let t8 = count_later 8 (omega arith) (omega arith) in
      omega (arith, m.header.sums.all, m.header.sums.main, t2, t3, t4, t5, t6, t7, t8, counts_all (recs_at a m.list) (recs_classes a bs m.records))

  first_header : RightHeader (header_at a 0)
  first_header = right_header a bs 0 (known_class (class a 0) first.0) (known_group (group a 0) first.1) (omega (arith, first.3)) m.header.times

  pub parse_right : Right (parse_at a m.list)
  unfolding header_at
  parse_right = record {
    header = first_header;
    main = first;
    long = lines_length a 0 72;
    lines = λ k h. rw (line_in_lem a m.list k h) (line_fits k h);
    records = recs_right a bs m.come m.records;
    order = recs_order a bs m.records;
    pointers = recs_aimed a bs m.records;
    size = size_line ∙ ap whole (sym (recs_bytes a bs m.records));
    most = omega (arith, recs_bytes a bs m.records, m.header.most);
    all = total_line 0 (omega arith) ∙ ap whole all_counted;
    mphr = total_line 1 (omega arith) ∙ ap whole m.header.sums.main;
    totals = λ c h l. total_line c l ∙ ap whole (count_later c h l);
  }
