-- THE PAYLOAD DOES NOT MATTER (02, request Eight: "It is accepted still, with the same rows, and each header field reads the same"): a product's records are
-- told by what is not payload. By induction on them; a field reads the same where its bytes are. Assumes nothing.
use Prim.Native.Nat.{ℕ, ◌+◌, ◌≤◌, ◌<◌}
use native.Mathlib.Omega.{arith}
use mathlib.Core.Path.{◌≡◌, refl, sym, ◌∙◌}
use mathlib.Core.List.Memᴰ.{head as top}
use mathlib.Core.List.Memᴰ.{tail as pop}
use mathlib.Core.List.{List, [], ◌∷◌, Memᴰ as In}
use lib.ListN.{get_or}
use Rattle.meter.specs.Integer.{be_at}
use Rattle.meter.proofs.IntegerLaws.{be_at_same}
use Rattle.tables.specs.Lawful.{Same}
use Rattle.record.specs.Times.{timed_at}
use Rattle.record.specs.Header.{header_at}
use Rattle.demands.specs.Product.{class, kind, target_class, offset, IsRecord, Aims, Records, none, more, of_class, Meets}
use Rattle.parts.specs.Payload.{Repaid}
use Rattle.parts.proofs.Local.{timed_alike, header_on, declared_on, total_on}

-- the n bytes from i on are the same
record Same-at (a b : List ℕ) (i n : ℕ) : Type 0 where
  byte : (j : ℕ) → j < n → get_or a (i + j) 0 ≡ get_or b (i + j) 0

module _ {a b : List ℕ} {i n : ℕ} (s : Same-at a b i n) where
  be_same : (j k : ℕ) → j + k ≤ n → be_at a (i + j) k ≡ be_at b (i + j) k
  be_same j k h = be_at_same a b (i + j) (i + j) k (λ x l. let e : i + j + x ≡ i + (j + x) = omega arith in rw e (s.byte (j + x) (omega arith)))

  class_same : 1 ≤ n → class a i ≡ class b i
  class_same h = let e : i + 0 ≡ i = omega arith in rw e at (s.byte 0 (omega arith))

  kind_same : 3 ≤ n → kind a i ≡ kind b i
  kind_same h = let e : i + 0 ≡ i = omega arith in rw e at (be_same 0 3 (omega arith))

  timed_same : 20 ≤ n → timed_at a i ≡ timed_at b i
  timed_same h = timed_alike a b i i (be_same 8 6 (omega arith)) (be_same 14 6 (omega arith))

  -- each field of the header
  header_same : 20 ≤ n → header_at a i ≡ header_at b i
  unfolding header_at
  header_same h =
      rw (class_same (omega arith), s.byte 1 (omega arith), s.byte 2 (omega arith), s.byte 3 (omega arith), be_same 4 4 (omega arith), be_same 8 6 (omega arith), be_same 14 6 (omega arith))

module _ {a b w : List ℕ} (h : Repaid a b w) where
  same : Same a b 3307
  same = record { byte = h.main }

  head : {i : ℕ} → In i w → Same-at a b i 20
  head {i} m = record { byte = h.headers i m }

  whole : {i : ℕ} → In i w → class a i ≡ 3 → Same-at a b i 27
  whole {i} m c = record { byte = h.iprs i m c }

  is_record : {p i : ℕ} → In i w → IsRecord a p i → IsRecord b p i
  is_record m r =
      let s = head m in
      let c = class_same s (omega arith) in
      let z = be_same s 4 4 (omega arith) in
      record {
        known = rw (sym c) r.known;
        grouped = rw (sym (s.byte 1 (omega arith))) r.grouped;
        ordered = rw (sym c) r.ordered;
        least = omega (arith, r.least);
        ipr = λ o. sym z ∙ r.ipr (c ∙ o);
        times = sym (timed_same s (omega arith)) ∙ r.times;
      }

  aims : {i : ℕ} {l : List ℕ} → In i w → class a i ≡ 3 → ((j : ℕ) → In j l → In j w) → Aims a l i → Aims b l i
  aims {i} {l} m c sub g =
      let s = whole m c in
      let e = be_same s 20 3 (omega arith) in
      let o : offset a i ≡ offset b i = be_same s 23 4 (omega arith) in
      let t : target_class a i ≡ target_class b i = s.byte 20 (omega arith) in
      record {
        four = omega (arith, g.four);
        eight = omega (arith, g.eight);
        later = rw o at g.later;
        alike = rw o at (sym (kind_same (head (sub (offset a i) g.later)) (omega arith)) ∙ g.alike ∙ e);
      }

  records_on : {i p : ℕ} {l : List ℕ} → ((j : ℕ) → In j l → In j w) → Records a i p l → Records b i p l
  records_on sub (none e) = none (e ∙ declared_on same)
  records_on sub (more {i = i} r f ts) =
      let m = sub i (top refl) in
      let c = class_same (head m) (omega arith) in
      more (is_record m r) (λ o. aims m (c ∙ o) (λ j n. sub j (pop n)) (f (c ∙ o)))
      (rw (sym c, sym (be_same (head m) 4 4 (omega arith))) (records_on (λ j n. sub j (pop n)) ts))

  count_same : (c : ℕ) (l : List ℕ) → ((j : ℕ) → In j l → In j w) → of_class a c l ≡ of_class b c l
  count_same c [] sub = refl
  count_same c (i ∷ l) sub = rw (class_same (head (sub i (top refl))) (omega arith), count_same c l (λ j n. sub j (pop n)))

-- THE LAW: a product with another payload is a product, and its records start at the same bytes
pub repaid_meets : {a b : List ℕ} (t : Meets a) → Repaid a b t.list → (u : Meets b) × (u.list ≡ t.list)
repaid_meets {a} {b} t h = (
  record {
    header = header_on (same h) t.header;
    list = t.list;
    records = records_on h (λ j n. n) t.records;
    totals = λ c l k.
        rw (sym (h.main 0 (omega arith)), sym (count_same h c t.list (λ j n. n))) (t.totals c l k ∙ total_on (same h) c k);
    come = sym h.long ∙ t.come ∙ declared_on (same h);
  },
  refl,
)

-- and each header reads the same
pub repaid_headers : {a b : List ℕ} {l : List ℕ} → Repaid a b l → (i : ℕ) → In i l → header_at a i ≡ header_at b i
repaid_headers h i m = header_same (head h m) (omega arith)
