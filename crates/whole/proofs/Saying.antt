-- PRODUCTS THAT SAY THE SAME ANSWER ALIKE: the same fields, the same starts and headers, the same refusals, the same targets and payloads. Assumes nothing.
use mathlib.Core.Path.{◌≡◌, sym, ap, ◌∙◌}
use mathlib.Core.Bool.{Bool, true, false}
use mathlib.Core.List.{List, [], ◌∷◌}
use Prim.Native.Nat.{ℕ, zero, suc, ◌+◌, ◌-◌, ◌≤◌, ◌<◌}
use native.Mathlib.Omega.{arith}
use lib.ListN.{length, get_or, take, drop}
use lib.Seq.{get_or-take, get_or-drop}
use Rattle.tables.proofs.Laws.{not_clean}
use Rattle.meter.specs.General.{digits_of, general_at}
use Rattle.record.specs.Header.{header_at}
use Rattle.record.specs.Pointer.{pointer_at, pointer_read_at}
use Rattle.record.specs.declared.header.Header.{Header}
use Rattle.text.specs.Field.{number_at}
use Rattle.text.specs.declared.Kind.{Kind}
use Rattle.text.specs.declared.Kind.TheVariants.{Text, Unsigned, Count, Signed, Time, LongTime}
use Rattle.mphr.specs.Layout.{width_of, kind_of, line_start}
use Rattle.demands.specs.Product.{class, size, Meets}
use Rattle.demands.specs.Demands.{start}
use Rattle.demands.proofs.Accepted.{first_class, meets_complete}
use Rattle.query.specs.Query as Q
use Rattle.query.specs.Query.{sort_of, times_of, Allowed, Denied, short, not_a_field, TextIs, NumberIs, TimeIs, RecordIs, RecordFound, NoRecord, not_yet}
use Rattle.std.specs.declared.result.Result.TheVariants.{Ok, Err}
use Rattle.std.specs.declared.option.Option.{Option}
use Rattle.std.specs.declared.result.Result.{Result}
use Rattle.calendar.specs.declared.Refusal.{Refusal}
use Rattle.std.specs.Prelude.{ℤ}
use Rattle.meter.specs.declared.general.Moment.{Moment}
use Rattle.query.specs.declared.Record.{Record}
use Rattle.query.specs.Found.{part_found}
use Rattle.query.specs.Found.{record_found}
use Rattle.query.proofs.QueryDetermined.{one_start}
use Rattle.meter.specs.Integer.{Bytes}
use Rattle.whole.specs.Values.{plain, pointer, Values, head_of, line_in}
use Rattle.whole.specs.Parse.{value_at, line_at, rec_at, recs_at, parse_at}
use Rattle.whole.specs.Answers.{heads_of, starts_from, start_of}
use Rattle.whole.specs.Alike.{AnswersAs}
use Rattle.whole.proofs.Parsed.{rec_head, line_in_lem, recs_length}
use Rattle.query.proofs.LineAnswers.{come, main_clean}
use Rattle.query.proofs.QueryDetermined.{one_count}
use Rattle.query.proofs.QuerySays.{started}
use Rattle.whole.proofs.Answers.{same_text, same_number, same_time, said_starts, nth_start, nth_rec, answers}
use Rattle.whole.proofs.Alike.{counts, rec_pointer, rec_plain}

same_payload : (h g : Header) (s t : List ℕ) → plain h s ≡ plain g t → s ≡ t
same_payload h g s t e = cc

-- a byte of what comes after a header
part_byte : (a : List ℕ) (i z j : ℕ) → 20 ≤ j → j < z → get_or a (i + j) 0 ≡ get_or (take (z - 20) (drop (i + 20) a)) (j - 20) 0
part_byte a i z j l u =
    let q : i + 20 + (j - 20) ≡ i + j = omega arith in
    sym (get_or-take (z - 20) (drop (i + 20) a) (j - 20) 0 (omega arith) ∙ get_or-drop (i + 20) a (j - 20) 0 ∙ ap (λ (k : ℕ). get_or a k 0) q)

-- ---- a value of its sort
number_of : (d : Kind) (a b : List ℕ) (i w : ℕ) → sort_of d ≡ sort_of Unsigned → value_at d a i w ≡ value_at d b i w → number_at a i w ≡ number_at b i w
number_of Text a b i w s e = let z : ◌≡◌ {A = ℕ} 0 1 = cc in absurd (omega arith)
number_of Unsigned a b i w s e = same_number (number_at a i w) (number_at b i w) e
number_of Count a b i w s e = same_number (number_at a i w) (number_at b i w) e
number_of Signed a b i w s e = same_number (number_at a i w) (number_at b i w) e
number_of Time a b i w s e = let z : ◌≡◌ {A = ℕ} 0 1 = cc in absurd (omega arith)
number_of LongTime a b i w s e = let z : ◌≡◌ {A = ℕ} 0 1 = cc in absurd (omega arith)

text_of : (d : Kind) (a b : List ℕ) (i w : ℕ) → sort_of d ≡ sort_of Text → value_at d a i w ≡ value_at d b i w → take w (drop i a) ≡ take w (drop i b)
text_of Text a b i w s e = same_text (take w (drop i a)) (take w (drop i b)) e
text_of Unsigned a b i w s e = let z : ◌≡◌ {A = ℕ} 0 1 = cc in absurd (omega arith)
text_of Count a b i w s e = let z : ◌≡◌ {A = ℕ} 0 1 = cc in absurd (omega arith)
text_of Signed a b i w s e = let z : ◌≡◌ {A = ℕ} 0 1 = cc in absurd (omega arith)
text_of Time a b i w s e = let z : ◌≡◌ {A = ℕ} 0 1 = cc in absurd (omega arith)
text_of LongTime a b i w s e = let z : ◌≡◌ {A = ℕ} 0 1 = cc in absurd (omega arith)

time_of : (d : Kind) (a b : List ℕ) (i w : ℕ) (long : Bool) → sort_of d ≡ times_of long → value_at d a i w ≡ value_at d b i w → general_at (digits_of long) a i ≡ general_at (digits_of long) b i
time_of Text a b i w true s e = let z : ◌≡◌ {A = ℕ} 0 1 = cc in absurd (omega arith)
time_of Text a b i w false s e = let z : ◌≡◌ {A = ℕ} 0 1 = cc in absurd (omega arith)
time_of Unsigned a b i w true s e = let z : ◌≡◌ {A = ℕ} 0 1 = cc in absurd (omega arith)
time_of Unsigned a b i w false s e = let z : ◌≡◌ {A = ℕ} 0 1 = cc in absurd (omega arith)
time_of Count a b i w true s e = let z : ◌≡◌ {A = ℕ} 0 1 = cc in absurd (omega arith)
time_of Count a b i w false s e = let z : ◌≡◌ {A = ℕ} 0 1 = cc in absurd (omega arith)
time_of Signed a b i w true s e = let z : ◌≡◌ {A = ℕ} 0 1 = cc in absurd (omega arith)
time_of Signed a b i w false s e = let z : ◌≡◌ {A = ℕ} 0 1 = cc in absurd (omega arith)
time_of Time a b i w true s e = let z : ◌≡◌ {A = ℕ} 0 1 = cc in absurd (omega arith)
time_of Time a b i w false s e = same_time (general_at 14 a i) (general_at 14 b i) e
time_of LongTime a b i w true s e = same_time (general_at 17 a i) (general_at 17 b i) e
time_of LongTime a b i w false s e = let z : ◌≡◌ {A = ℕ} 0 1 = cc in absurd (omega arith)

-- ---- OF TWO PRODUCTS THAT SAY THE SAME
module _ (a b : List ℕ) (bs : Bytes a) (cs : Bytes b) (m : Meets a) (n : Meets b) (e : parse_at a m.list ≡ parse_at b n.list) where
  value_same : (k : ℕ) → k < 72 → value_at (kind_of k) a (line_start k + 32) (width_of k) ≡ value_at (kind_of k) b (line_start k + 32) (width_of k)
  unfolding line_at
  value_same k h = sym (line_in_lem a m.list k h) ∙ ap (λ (v : Values). line_in v k) e ∙ line_in_lem b n.list k h

  allowed_on : {k : ℕ} {sort : _} → Allowed a k sort → Allowed b k sort
  allowed_on w = record { clean = main_clean n; come = come n; field = w.field }

  denied_on : {k x y : ℕ} {sort : _} → Denied a k sort x y → Denied b k sort x y
  denied_on (Q.Denied.faulty g) = absurd (not_clean g (main_clean m))
  denied_on (short c h) = absurd (omega (arith, come m))
  denied_on (not_a_field c h d) = not_a_field (main_clean n) (come n) d

  texts : (k i w : ℕ) → TextIs a k (part_found i w) → take w (drop i a) ≡ take w (drop i b)
  texts k i w f =
      let t = text_of (kind_of k) a b (line_start k + 32) (width_of k) f.allowed.field.sorted (value_same k (omega (arith, f.allowed.field.known))) in
      rw (f.start_is, f.width_is) t

  numbers : (k : ℕ) (r : Result (Option ℤ) Refusal) → NumberIs a k r → NumberIs b k r
  numbers k (Ok x) (w, q) = (allowed_on w, q ∙ number_of (kind_of k) a b (line_start k + 32) (width_of k) w.field.sorted (value_same k (omega (arith, w.field.known))))
  numbers k (Err r) d = denied_on d

  times : (k : ℕ) (long : Bool) (r : Result (Option Moment) Refusal) → TimeIs a k long r → TimeIs b k long r
  times k long (Ok x) (w, q) = (allowed_on w, q ∙ time_of (kind_of k) a b (line_start k + 32) (width_of k) long w.field.sorted (value_same k (omega (arith, w.field.known))))
  times k long (Err r) d = denied_on d

  -- the records
  list_same : m.list ≡ n.list
  list_same = ap (drop 1) (sym (said_starts a m) ∙ ap (λ (v : Values). starts_from 0 (heads_of v)) e ∙ said_starts b n)

  many : suc (length m.list) ≡ suc (length n.list)
  many = ap (λ (l : List ℕ). suc (length l)) list_same

  start_same : (k : ℕ) → k < suc (length m.list) → start a k ≡ start b k
  start_same k h = sym (nth_start a m k h) ∙ ap (λ (l : List ℕ). get_or (0 ∷ l) k 0) list_same ∙ nth_start b n k (omega (arith, many))

  rec_same : (j : ℕ) → j < length m.list → rec_at a (get_or m.list j 0) ≡ rec_at b (get_or m.list j 0)
  rec_same j h =
      let d = plain (header_at a 0) [] in
      sym (nth_rec a m.list d j h)
      ∙ ap (λ (v : Values). get_or v.records j d) e
      ∙ nth_rec b n.list d j (omega (arith, many))
      ∙ ap (λ (l : List ℕ). rec_at b (get_or l j 0)) (sym list_same)

  head_at : (j : ℕ) → j < length m.list → header_at a (get_or m.list j 0) ≡ header_at b (get_or m.list j 0)
  head_at j h = sym (rec_head a (get_or m.list j 0)) ∙ ap head_of (rec_same j h) ∙ rec_head b (get_or m.list j 0)

  head_same : (k : ℕ) → k < suc (length m.list) → header_at a (start a k) ≡ header_at b (start a k)
  unfolding start
  head_same zero h = ap (λ (v : Values). v.header) e
  head_same (suc j) h =
      let q : get_or m.list j 0 ≡ start a (suc j) = nth_start a m (suc j) h in
      rw q at (head_at j (omega arith))

  class_same : (j : ℕ) → j < length m.list → class a (get_or m.list j 0) ≡ class b (get_or m.list j 0)
  unfolding header_at
  class_same j h = ap (λ (x : Header). x.class) (head_at j h)

  size_same : (j : ℕ) → j < length m.list → size a (get_or m.list j 0) ≡ size b (get_or m.list j 0)
  unfolding header_at
  size_same j h = ap (λ (x : Header). x.size) (head_at j h)

  place : {k i : ℕ} {h : Header} → RecordFound a k i h → (k < suc (length m.list)) × (i ≡ start a k)
  place {k} f =
      let c = one_count a _ _ _ _ f.waiting (counts a m).all in
      let l : k < suc (length m.list) = omega (arith, f.below) in
      (l, one_start f.start (started (counts a m).all k l))

  not_on : {k x y : ℕ} → NoRecord a k x y → NoRecord b k x y
  not_on (Q.NoRecord.faulty g) = absurd (not_clean g (meets_complete m).clean)
  not_on {k} (not_yet {c = c} o h) =
      let q : suc (length n.list) ≡ c = sym many ∙ one_count a _ _ _ _ (counts a m).all o in
      let r : NoRecord b k 19 (suc (length n.list)) = not_yet (counts b n).all (omega arith) in
      rw q at r

  records : (k : ℕ) (r : Result Record Refusal) → RecordIs a k r → RecordIs b k r
  records k (Ok t) f =
      let p = place f in
      let l : k < suc (length n.list) = omega (arith, p.0, many) in
      let s : start b k ≡ t.start = sym (p.1 ∙ start_same k p.0) in
      record {
        count = suc (length n.list);
        end = (counts b n).end;
        waiting = (counts b n).all;
        below = l;
        start = rw s at (started (counts b n).all k l);
        header = f.header ∙ ap (header_at a) p.1 ∙ head_same k p.0 ∙ ap (header_at b) (sym p.1);
      }
  records k (Err r) f = not_on f

  -- where record k, not the main header, stands
  later_at : (k i : ℕ) (h : Header) → RecordFound a (suc k) i h → (k < length m.list) × (i ≡ get_or m.list k 0) × (h ≡ header_at a (get_or m.list k 0))
  later_at k i h f =
      let p = place f in
      let q : i ≡ get_or m.list k 0 = p.1 ∙ sym (nth_start a m (suc k) p.0) in
      (omega (arith, p.0), q, f.header ∙ ap (header_at a) q)

  later_class : (k : ℕ) (h : Header) → h ≡ header_at a (get_or m.list k 0) → class a (get_or m.list k 0) ≡ h.class
  unfolding header_at
  later_class k h q = ap (λ (x : Header). x.class) (sym q)

  later_size : (k : ℕ) (h : Header) → h ≡ header_at a (get_or m.list k 0) → size a (get_or m.list k 0) ≡ h.size
  unfolding header_at
  later_size k h q = ap (λ (x : Header). x.size) (sym q)

  no_first : (i : ℕ) (h : Header) → RecordFound a 0 i h → h.class ≡ 3 → ⊥
  unfolding start header_at
  no_first i h f c =
      let p = place f in
      let q : h.class ≡ class a 0 = ap (λ (x : Header). x.class) (f.header ∙ ap (header_at a) p.1) in
      omega (arith, first_class a m.header.header)

  target_same : (k : ℕ) → k < length m.list → class a (get_or m.list k 0) ≡ 3 → pointer_read_at a (get_or m.list k 0) ≡ pointer_read_at b (get_or m.list k 0)
  target_same k h c =
      let i = get_or m.list k 0 in
      let p = pointer_at a i in
      let x : get_or (recs_at a m.list) k (pointer p) ≡ pointer p = nth_rec a m.list (pointer p) k h ∙ rec_pointer a i c in
      let y : get_or (recs_at b n.list) k (pointer p) ≡ pointer p = ap (λ (v : Values). get_or v.records k (pointer p)) (sym e) ∙ x in
      let u : start_of (parse_at a m.list) (suc k) ≡ i = ap (λ (s : List ℕ). get_or s (suc k) 0) (said_starts a m) in
      let w : start_of (parse_at b n.list) (suc k) ≡ i = ap (λ (v : Values). start_of v (suc k)) (sym e) ∙ u in
      let f = rw u at ((answers a bs m).targets k p (omega (arith, recs_length a m.list)) x) in
      let g = rw w at ((answers b cs n).targets k p (omega (arith, many, recs_length b n.list)) y) in
      f ∙ sym g

  targets : (k i : ℕ) (h : Header) → RecordIs a k (record_found i h) → h.class ≡ 3 → pointer_read_at a i ≡ pointer_read_at b i
  targets zero i h f c = absurd (no_first i h f c)
  targets (suc k) i h f c = let p = later_at k i h f in rw p.1 (target_same k p.0 (later_class k h p.2 ∙ c))

  payload_same : (k : ℕ) → k < length m.list → (class a (get_or m.list k 0) ≡ 3 → ⊥) → (j : ℕ) → 20 ≤ j → j < size a (get_or m.list k 0) → get_or a (get_or m.list k 0 + j) 0 ≡ get_or b (get_or m.list k 0 + j) 0
  payload_same k h c j l u =
      let i = get_or m.list k 0 in
      let s = rec_same k h in
      let d : class b i ≡ 3 → ⊥ = λ q. c (class_same k h ∙ q) in
      let z : size b i ≡ size a i = sym (size_same k h) in
      let t = same_payload (header_at a i) (header_at b i) (take (size a i - 20) (drop (i + 20) a)) (take (size b i - 20) (drop (i + 20) b)) (sym (rec_plain a i c) ∙ s ∙ rec_plain b i d) in
      part_byte a i (size a i) j l u ∙ ap (λ (x : List ℕ). get_or x (j - 20) 0) t ∙ sym (part_byte b i (size b i) j l (omega arith))

  payloads : (k i : ℕ) (h : Header) → RecordIs a k (record_found i h) → 0 < k → (h.class ≡ 3 → ⊥) → (j : ℕ) → 20 ≤ j → j < h.size → get_or a (i + j) 0 ≡ get_or b (i + j) 0
  payloads zero i h f o c j l u = absurd (omega arith)
  payloads (suc k) i h f o c j l u =
      let p = later_at k i h f in
      rw p.1 (payload_same k p.0 (λ q. c (sym (later_class k h p.2) ∙ q)) j l (omega (arith, later_size k h p.2)))

  -- THE LAW
  pub answers_as : AnswersAs a b
  answers_as = record { texts = texts; numbers = numbers; times = times; records = records; targets = targets; payloads = payloads }
