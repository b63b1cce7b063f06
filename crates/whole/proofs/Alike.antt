-- PRODUCTS THAT ANSWER ALIKE SAY THE SAME: as many records, at the same places, with the same headers, targets and payloads; each line the same value. Each
-- query has a right answer of a product, and the one is the other's. Assumes nothing.
use mathlib.Core.Path.{◌≡◌, refl, sym, ap, ◌∙◌}
use mathlib.Core.Bool.{true, false}
use mathlib.Core.List.{List, []}
use Prim.Native.Nat.{ℕ, suc, ◌+◌, ◌-◌, ◌≤◌, ◌<◌}
use native.Mathlib.Decide.{ℕ_discrete}
use native.Mathlib.Omega.{arith}
use borrow.Author.Tests.{eq-eqb, ne_eqb}
use lib.ListN.{length, get_or, take, drop, length-take, length-drop}
use lib.Seq.{get_or-take, get_or-drop, ext_get_or}
use Rattle.calendar.specs.Said.{refusing}
use Rattle.tables.proofs.Laws.{not_clean}
use Rattle.meter.proofs.ReadsBack.{reads_answer}
use Rattle.record.specs.Header.{header_at}
use Rattle.record.specs.Pointer.{is_pointer, pointer_at}
use Rattle.record.specs.declared.header.Header.{Header}
use Rattle.text.specs.declared.Kind.{Kind}
use Rattle.text.specs.declared.Kind.TheVariants.{Text, Unsigned, Count, Signed, Time, LongTime}
use Rattle.mphr.specs.Layout.{width_of, kind_of, line_start}
use Rattle.judge.specs.Table.{Open}
use Rattle.demands.specs.Product.{class, size, Meets}
use Rattle.demands.specs.Demands.{start}
use Rattle.demands.proofs.Accept.{complete_covered}
use Rattle.demands.proofs.Accepted.{meets_complete, covers}
use Rattle.demands.proofs.Counting.{ends_whole}
use Rattle.query.specs.Query.{RecordFound, NoRecord, not_yet, RecordIs, sort_of, number_in, time_in}
use Rattle.query.specs.Query as Q
use Rattle.std.specs.declared.result.Result.TheVariants.{Ok, Err}
use Rattle.query.specs.Found.{record_found}
use Rattle.query.proofs.QueryDetermined.{one_start, one_count}
use Rattle.query.proofs.QuerySays.{started}
use Rattle.meter.specs.Integer.{Bytes}
use Rattle.whole.specs.Values.{Value, text, number, time, Rec, plain, pointer, Values, print}
use Rattle.whole.specs.Spelled.{Canonical}
use Rattle.whole.specs.Parse.{value_at, line_at, lines_at, rec_at, recs_at, parse_at}
use Rattle.whole.specs.Answers.{start_of}
use Rattle.whole.specs.Alike.{AnswersAs}
use Rattle.whole.proofs.Parsed.{lines_length, line_in_lem, recs_length}
use Rattle.whole.proofs.Again.{print_parse}
use Rattle.whole.proofs.Answers.{field_allowed, time_allowed, said_starts, nth_start, nth_rec, nth_come, answers}

-- ---- A RECORD THAT IS THERE IS ANSWERED
module _ (a : List ℕ) (m : Meets a) where
  pub record Counts : Type 0 where
    pub end : ℕ
    pub all : Open a (suc (length m.list)) end

  pub counts : Counts
  counts =
      let c = complete_covered (meets_complete m) in
      record { end = c.1.last.at; all = rw (covers m c.1).0 at (ends_whole (meets_complete m) c.1) }

  pub record_there : (k : ℕ) → k < suc (length m.list) → RecordIs a k (record_found (start a k) (header_at a (start a k)))
  record_there k h = record { count = suc (length m.list); end = counts.end; waiting = counts.all; below = h; start = started counts.all k h; header = refl }

  record_not : RecordIs a (suc (length m.list)) (Err (refusing 19 (suc (length m.list))))
  record_not = not_yet counts.all (omega arith)

counted : (a : List ℕ) (m : Meets a) (k c : ℕ) → NoRecord a k 19 c → suc (length m.list) ≡ c
counted a m k c (Q.NoRecord.faulty g) = absurd (not_clean g (meets_complete m).clean)
counted a m k c (not_yet o h) = one_count a _ _ _ _ (counts a m).all o

-- ---- what a record is, by its class
pub rec_pointer : (a : List ℕ) (i : ℕ) → class a i ≡ 3 → rec_at a i ≡ pointer (pointer_at a i)
unfolding rec_at
rec_pointer a i c = rw (eq-eqb (class a i) 3 c)

pub rec_plain : (a : List ℕ) (i : ℕ) → (class a i ≡ 3 → ⊥) → rec_at a i ≡ plain (header_at a i) (take (size a i - 20) (drop (i + 20) a))
unfolding rec_at
rec_plain a i c = rw (ne_eqb (class a i) 3 c)

-- bytes that are the same, taken out
pub part_same : (a b : List ℕ) (i z y : ℕ) → z ≡ y → i + z ≤ length a → i + z ≤ length b → ((j : ℕ) → 20 ≤ j → j < z → get_or a (i + j) 0 ≡ get_or b (i + j) 0) → take (z - 20) (drop (i + 20) a) ≡ take (y - 20) (drop (i + 20) b)
part_same a b i z y e h l f = ext_get_or 0 (take (z - 20) (drop (i + 20) a)) (take (y - 20) (drop (i + 20) b)) (long-a ∙ long-b) byte
  where
    long-a : length (take (z - 20) (drop (i + 20) a)) ≡ z - 20
    long-a = simp (length-take, length-drop) (omega arith)

    long-b : z - 20 ≡ length (take (y - 20) (drop (i + 20) b))
    long-b = simp (length-take, length-drop) (omega arith)

    byte : (j : ℕ) → j < length (take (z - 20) (drop (i + 20) a)) → get_or (take (z - 20) (drop (i + 20) a)) j 0 ≡ get_or (take (y - 20) (drop (i + 20) b)) j 0
    byte j u =
        let w : j < z - 20 = omega (arith, long-a) in
        let v : i + (20 + j) ≡ i + 20 + j = omega arith in
        get_or-take (z - 20) (drop (i + 20) a) j 0 w ∙ get_or-drop (i + 20) a j 0 ∙ rw v at (f (20 + j) (omega arith) (omega arith)) ∙ sym (get_or-take (y - 20) (drop (i + 20) b) j 0 (omega arith) ∙ get_or-drop (i + 20) b j 0)

pub together : {h g : Header} {l k : List Value} {s t : List Rec} → h ≡ g → l ≡ k → s ≡ t → ◌≡◌ {A = Values} (record { header = h; lines = l; records = s }) (record { header = g; lines = k; records = t })
together e f g = rw (e, f, g)

-- ---- THE SAME LINES
module _ (a b : List ℕ) (m : Meets a) (n : Meets b) (s : AnswersAs a b) where
  line_same : (d : Kind) (k : ℕ) → k < 72 → kind_of k ≡ d → value_at d a (line_start k + 32) (width_of k) ≡ value_at d b (line_start k + 32) (width_of k)
  line_same Text k h e = ap text (s.texts k (line_start k + 32) (width_of k) (record { allowed = field_allowed a m k Text h (ap sort_of e); start_is = refl; width_is = refl }))
  line_same Unsigned k h e = ap number (s.numbers k (Ok (number_in a k)) (field_allowed a m k Unsigned h (ap sort_of e), refl)).1
  line_same Count k h e = ap number (s.numbers k (Ok (number_in a k)) (field_allowed a m k Unsigned h (ap sort_of e), refl)).1
  line_same Signed k h e = ap number (s.numbers k (Ok (number_in a k)) (field_allowed a m k Unsigned h (ap sort_of e), refl)).1
  line_same Time k h e = ap time (s.times k false (Ok (time_in a k false)) (time_allowed a m k false h (ap sort_of e), refl)).1
  line_same LongTime k h e = ap time (s.times k true (Ok (time_in a k true)) (time_allowed a m k true h (ap sort_of e), refl)).1

  lines_same : lines_at a 0 72 ≡ lines_at b 0 72
  unfolding line_at
  lines_same =
      ext_get_or (text []) (lines_at a 0 72) (lines_at b 0 72) (lines_length a 0 72 ∙ sym (lines_length b 0 72))
      (λ k h.
      let l : k < 72 = omega (arith, lines_length a 0 72) in
      line_in_lem a [] k l ∙ line_same (kind_of k) k l refl ∙ sym (line_in_lem b [] k l))

  -- ---- THE SAME RECORDS
  many : suc (length m.list) ≡ suc (length n.list)
  many = sym (counted b n (suc (length m.list)) (suc (length m.list)) (s.records (suc (length m.list)) (Err (refusing 19 (suc (length m.list)))) (record_not a m)))

  found : (k : ℕ) → k < suc (length m.list) → RecordFound b k (start a k) (header_at a (start a k))
  found k h = s.records k (record_found (start a k) (header_at a (start a k))) (record_there a m k h)

  start_same : (k : ℕ) → k < suc (length m.list) → start a k ≡ start b k
  start_same k h = one_start (found k h).start (started (counts b n).all k (omega (arith, many)))

  head_same : (k : ℕ) → k < suc (length m.list) → header_at a (start a k) ≡ header_at b (start a k)
  head_same k h = (found k h).header

  list_same : m.list ≡ n.list
  list_same =
      ext_get_or 0 m.list n.list (omega (arith, many))
      (λ j h. nth_start a m (suc j) (omega arith) ∙ start_same (suc j) (omega arith) ∙ sym (nth_start b n (suc j) (omega (arith, many))))

  module _ (bs : Bytes a) (k : ℕ) (h : k < length m.list) where
    place : get_or m.list k 0 ≡ start a (suc k)
    place = nth_start a m (suc k) (omega arith)

    there : RecordIs a (suc k) (record_found (get_or m.list k 0) (header_at a (get_or m.list k 0)))
    there = rw place (record_there a m (suc k) (omega arith))

    header_same : header_at a (get_or m.list k 0) ≡ header_at b (get_or m.list k 0)
    header_same = rw place (head_same (suc k) (omega arith))

    class_same : class a (get_or m.list k 0) ≡ class b (get_or m.list k 0)
    unfolding header_at
    class_same = ap (λ (x : Header). x.class) header_same

    size_same : size a (get_or m.list k 0) ≡ size b (get_or m.list k 0)
    unfolding header_at
    size_same = ap (λ (x : Header). x.size) header_same

    pointer_same : class a (get_or m.list k 0) ≡ 3 → pointer_at a (get_or m.list k 0) ≡ pointer_at b (get_or m.list k 0)
    unfolding header_at
    pointer_same c =
        let p = pointer_at a (get_or m.list k 0) in
        let e : get_or (recs_at a m.list) k (pointer p) ≡ pointer p = nth_rec a m.list (pointer p) k h ∙ rec_pointer a (get_or m.list k 0) c in
        let u : start_of (parse_at a m.list) (suc k) ≡ get_or m.list k 0 = ap (λ (x : List ℕ). get_or x (suc k) 0) (said_starts a m) in
        let q = rw u at ((answers a bs m).targets k p (omega (arith, recs_length a m.list)) e) in
        let t = s.targets (suc k) (get_or m.list k 0) (header_at a (get_or m.list k 0)) there c in
        sym (reads_answer b (get_or m.list k 0) 27 (is_pointer (pointer_at b (get_or m.list k 0))) (pointer_at b (get_or m.list k 0)) p (sym t ∙ q)).2

    payload_byte : (class a (get_or m.list k 0) ≡ 3 → ⊥) → (j : ℕ) → 20 ≤ j → j < size a (get_or m.list k 0) → get_or a (get_or m.list k 0 + j) 0 ≡ get_or b (get_or m.list k 0 + j) 0
    unfolding header_at
    payload_byte c = s.payloads (suc k) (get_or m.list k 0) (header_at a (get_or m.list k 0)) there (omega arith) c

    come_here : get_or m.list k 0 + size a (get_or m.list k 0) ≤ length a
    come_here = omega (arith, nth_come m.records k h, m.come)

    come_there : get_or m.list k 0 + size a (get_or m.list k 0) ≤ length b
    come_there =
        let q : get_or n.list k 0 ≡ get_or m.list k 0 = ap (λ (l : List ℕ). get_or l k 0) (sym list_same) in
        omega (arith, rw q at (nth_come n.records k (omega (arith, many))), size_same, n.come)

    payload_same : (class a (get_or m.list k 0) ≡ 3 → ⊥) → take (size a (get_or m.list k 0) - 20) (drop (get_or m.list k 0 + 20) a) ≡ take (size b (get_or m.list k 0) - 20) (drop (get_or m.list k 0 + 20) b)
    payload_same c = part_same a b (get_or m.list k 0) (size a (get_or m.list k 0)) (size b (get_or m.list k 0)) size_same come_here come_there (payload_byte c)

    rec_same : rec_at a (get_or m.list k 0) ≡ rec_at b (get_or m.list k 0)
    rec_same = go (ℕ_discrete (class a (get_or m.list k 0)) 3)
      where
        go : Dec (class a (get_or m.list k 0) ≡ 3) → rec_at a (get_or m.list k 0) ≡ rec_at b (get_or m.list k 0)
        go (yes c) = rec_pointer a (get_or m.list k 0) c ∙ ap pointer (pointer_same c) ∙ sym (rec_pointer b (get_or m.list k 0) (sym class_same ∙ c))
        go (no c) =
            rec_plain a (get_or m.list k 0) c
            ∙ ap (λ (x : Header). plain x (take (size a (get_or m.list k 0) - 20) (drop (get_or m.list k 0 + 20) a))) header_same
            ∙ ap (plain (header_at b (get_or m.list k 0))) (payload_same c)
            ∙ sym (rec_plain b (get_or m.list k 0) (λ e. c (class_same ∙ e)))

  recs_same : Bytes a → recs_at a m.list ≡ recs_at b n.list
  recs_same bs =
      ext_get_or (plain (header_at a 0) []) (recs_at a m.list) (recs_at b m.list) (recs_length a m.list ∙ sym (recs_length b m.list))
      (λ k h.
      let l : k < length m.list = omega (arith, recs_length a m.list) in
      nth_rec a m.list (plain (header_at a 0) []) k l ∙ rec_same bs k l ∙ sym (nth_rec b m.list (plain (header_at a 0) []) k l))
      ∙ ap (recs_at b) list_same

  first_same : header_at a 0 ≡ header_at b 0
  unfolding start
  first_same = head_same 0 (omega arith)

  pub says_same : Bytes a → parse_at a m.list ≡ parse_at b n.list
  says_same bs = together first_same lines_same (recs_same bs)

-- THE LAW
pub alike_same : (a b : List ℕ) → Bytes a → Bytes b → Meets a → Meets b → Canonical a → Canonical b → AnswersAs a b → a ≡ b
alike_same a b bs cs m n p q s = sym (print_parse a bs m p) ∙ ap print (says_same a b m n s bs) ∙ print_parse b cs n q
