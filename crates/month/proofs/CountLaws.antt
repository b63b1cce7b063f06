-- One pass over a product's records: what the sums have come to, with what the records that are left add, is the whole, which is small enough for 64 bits. By
-- the records from the one at hand to the product's end. Assumes nothing.
use Prim.Native.Nat.{ℕ, ◌+◌, ◌-◌, ◌*◌, ◌≤◌, ◌<◌}
use native.Mathlib.Decide.{ℕ_discrete}
use native.Mathlib.Omega.{arith}
use mathlib.Core.Path.{◌≡◌, refl, sym, ap, subst, ◌∙◌}
use mathlib.Core.Bool.{Bool, true, false, cond}
use mathlib.Core.List.{List, [], ◌∷◌}
use borrow.Author.Tests.{eq-eqb, ne_eqb}
use lib.Dec.{eqb}
use lib.ListN.{length, get_or, set, replicate, length-set}
use lib.Seq.{get_or-set_same, get_or-set_other}
use Rattle.meter.specs.Time.{time_at}
use Rattle.std.specs.declared.option.Option.TheVariants.{Some, None}
use Rattle.std.specs.declared.option.Option.{Option}
use Rattle.meter.specs.declared.time.Time.{Time}
use Rattle.text.proofs.Exact.{is_small}
use Rattle.mphr.specs.Table.{total}
use Rattle.mphr.proofs.LineLaws.{total_is, total_number}
use Rattle.finish.specs.Ahead.{Record, Ahead, none, more}
use Rattle.finish.proofs.AheadLaws.{all_ahead}
use Rattle.demands.specs.Product.{class, size, of_class, Meets}
use Rattle.demands.proofs.Accept.{complete_covered}
use Rattle.demands.proofs.Accepted.{meets_complete, covers}
use Rattle.moment.specs.Moment.{gap_between, overlap_between, undefined_between}
use Rattle.month.specs.Report.{sum_of, records_in, bytes_in, mdrs, over_pairs, stop_to_start, gaps, overlaps, undefined_pairs, for_classes, totals, contribution}
use Rattle.month.specs.Counting.{with_left, PairSums, Paired, PairedOn}
use Rattle.month.specs.declared.count.Pairs.{Pairs}
use Rattle.month.proofs.PlusLaws.{none_at}
use Rattle.moment.proofs.MomentLaws.{Low, low_at, gap_most, overlap_most, undefined_most}

-- ---- THE PAIRS
pairs_most : (f : ℕ → ℕ → ℕ) → ((i j : ℕ) → f i j ≤ 8796093022208) → (xs : List ℕ) → over_pairs f xs ≤ length xs * 8796093022208
pairs_most f h [] = omega arith
pairs_most f h (i ∷ []) = omega arith
pairs_most f h (i ∷ j ∷ l) = omega (arith, h i j, pairs_most f h (j ∷ l))

-- ---- THE RECORDS AND BYTES of each class
module _ (a : List ℕ) (w : ℕ → ℕ) where
  sum_here : (c i : ℕ) (l : List ℕ) → class a i ≡ c → sum_of a w c (i ∷ l) ≡ w i + sum_of a w c l
  sum_here c i l e = rw (eq-eqb (class a i) c e) refl

  sum_other : (c i : ℕ) (l : List ℕ) → (class a i ≡ c → ⊥) → sum_of a w c (i ∷ l) ≡ sum_of a w c l
  sum_other c i l n = rw (ne_eqb (class a i) c n) (omega arith)

  -- t has what was come to, and whole is what it comes to with the records that start at the bytes l
  pub record Left (t l : List ℕ) (whole : ℕ → ℕ) : Type 0 where
    pub each : (c : ℕ) → get_or t c 0 + sum_of a w c l ≡ whole c

  module _ {t l : List ℕ} {whole : ℕ → ℕ} {i k v : ℕ} (left : Left t (i ∷ l) whole) (k-is : k ≡ class a i) (v-is : v ≡ w i) where
    pub raised_most : get_or t k 0 + v ≤ whole k
    raised_most = omega (arith, left.each k, sum_here k i l (sym k-is), v-is)

    pub raised : k < length t → Left (set t k (get_or t k 0 + v)) l whole
    raised h = record { each = λ c. go c (ℕ_discrete c k) }
      where
        go : (c : ℕ) → Dec (c ≡ k) → get_or (set t k (get_or t k 0 + v)) c 0 + sum_of a w c l ≡ whole c
        go c (yes e) =
            let q = get_or-set_same t k (get_or t k 0 + v) 0 h in
            rw e (omega (arith, q, left.each k, sum_here k i l (sym k-is), v-is))
        go c (no n) = omega (arith, get_or-set_other t k c (get_or t k 0 + v) 0 n, left.each c, sum_other c i l (λ e. n (sym e ∙ sym k-is)))

  sum_most : {i : ℕ} {l : List ℕ} → ((j : ℕ) → Record a j → w j ≤ size a j) → Ahead a i l → (c : ℕ) → sum_of a w c l ≤ length a - i
  sum_most f (none h) c = omega arith
  sum_most f (more {i} {l} r n) c = go (ℕ_discrete (class a i) c) (sum_most f n c)
    where
      go : Dec (class a i ≡ c) → sum_of a w c l ≤ length a - (i + size a i) → sum_of a w c (i ∷ l) ≤ length a - i
      go (yes e) h = omega (arith, sum_here c i l e, f i r, r.most)
      go (no d) h = omega (arith, sum_other c i l d, r.most)

-- the MDRs are counted
of_class_lem : (a : List ℕ) (c : ℕ) (l : List ℕ) → of_class a c l ≡ records_in a l c
of_class_lem a c [] = refl
of_class_lem a c (i ∷ l) = ap (λ (n : ℕ). cond (eqb (class a i) c) 1 0 + n) (of_class_lem a c l)

mdrs_count : (a l : List ℕ) → length (mdrs a l) ≡ records_in a l 8
mdrs_count a [] = refl
mdrs_count a (i ∷ l) = go (eqb (class a i) 8) (mdrs_count a l)
  where
    go : (b : Bool) → length (mdrs a l) ≡ records_in a l 8 → length (cond b (i ∷ mdrs a l) (mdrs a l)) ≡ cond b 1 0 + records_in a l 8
    go true h = omega arith
    go false h = omega arith

-- ---- A PRODUCT, from its first byte
module _ {a : List ℕ} (t : Meets a) where
  pub all_records : Ahead a 0 (0 ∷ t.list)
  all_records =
      let k = meets_complete t in
      let v = (complete_covered k).1 in
      subst (λ (l : List ℕ). Ahead a 0 (0 ∷ l)) (covers t v).1 (all_ahead k v)

  pub product_small : length a ≤ 2147483647
  product_small = omega (arith, t.come, t.header.most)

  pub few_records : (c : ℕ) → records_in a (0 ∷ t.list) c < 18446744073709551616
  few_records c = omega (arith, product_small, sum_most a (λ (i : ℕ). 1) (λ j r. omega (arith, r.least)) all_records c)

  pub few_bytes : (c : ℕ) → bytes_in a (0 ∷ t.list) c < 18446744073709551616
  few_bytes c = omega (arith, product_small, sum_most a (size a) (λ j r. omega arith) all_records c)

  few_mdrs : length (mdrs a (0 ∷ t.list)) < 1000000
  few_mdrs =
      let n : total a 8 < 1000000 = rw (total_is a 8 (omega arith)) (is_small false a (2675 + 39 * 8) 6 (total_number a 8 (omega arith) (t.header.lines 63 (omega arith)).1)) in
      omega (arith, mdrs_count a (0 ∷ t.list), of_class_lem a 8 (0 ∷ t.list), t.totals 8 (omega arith) (omega arith), n)

  -- a sum over the pairs, each of which is below 2 ^ 43
  module _ (byte : (k : ℕ) → get_or a k 0 < 256) where
    few : (f : Option Time → Option Time → ℕ) → ((t u : Option Time) → Low t → Low u → f t u ≤ 8796093022208) → over_pairs (stop_to_start f a) (mdrs a (0 ∷ t.list)) < 18446744073709551616
    few f h =
        let low = low_at a byte in
        omega (arith, few_mdrs, pairs_most (stop_to_start f a) (λ i j. h (time_at a (i + 14)) (time_at a (j + 8)) (low (i + 14)) (low (j + 8))) (mdrs a (0 ∷ t.list)))

    pub few_gaps : gaps a (0 ∷ t.list) < 18446744073709551616
    few_gaps = few gap_between gap_most

    pub few_overlaps : overlaps a (0 ∷ t.list) < 18446744073709551616
    few_overlaps = few overlap_between overlap_most

    pub few_undefined : undefined_pairs a (0 ∷ t.list) < 18446744073709551616
    few_undefined = few undefined_between undefined_most

-- ---- BETWEEN TWO RECORDS: those at the bytes l are left, the first of them at byte i
pub record Sofar (a whole records bytes : List ℕ) (p : Pairs) (i : ℕ) (l : List ℕ) : Type 0 where
  pub ahead : Ahead a i l
  pub nine : length records ≡ 9
  pub nine_bytes : length bytes ≡ 9
  pub counts : Left a (λ (j : ℕ). 1) records l (records_in a whole)
  pub sizes : Left a (size a) bytes l (bytes_in a whole)
  pub last : (j : ℕ) → p.last ≡ Some j → j + 20 ≤ length a
  pub pairs : PairSums a p (mdrs a l) (gaps a whole) (overlaps a whole) (undefined_pairs a whole)

pub first : {a : List ℕ} (t : Meets a) → Sofar a (0 ∷ t.list) (replicate 9 0) (replicate 9 0) (record { last = None; gap = 0; overlap = 0; undefined = 0 }) 0 (0 ∷ t.list)
first {a} t = record {
  ahead = all_records t;
  nine = refl;
  nine_bytes = refl;
  counts = record { each = λ c. omega (arith, none_at 9 c) };
  sizes = record { each = λ c. omega (arith, none_at 9 c) };
  last = λ j e. absurd (let z : ◌≡◌ {A = ℕ} 0 1 = cc in omega arith);
  pairs = record { gap = omega arith; overlap = omega arith; undefined = omega arith };
}

-- where a byte is left, a record stands there
pub record Here (a whole records bytes : List ℕ) (p : Pairs) (i : ℕ) : Type 0 where
  pub rest : List ℕ
  pub sofar : Sofar a whole records bytes p i (i ∷ rest)
  pub here : Record a i
  pub ahead : Ahead a (i + size a i) rest

pub here_of : {a whole records bytes : List ℕ} {p : Pairs} {i : ℕ} (l : List ℕ) → Sofar a whole records bytes p i l → i < length a → Here a whole records bytes p i
here_of {a} {whole} {records} {bytes} {p} {i} l s h = go s.ahead s
  where
    go : {l : List ℕ} → Ahead a i l → Sofar a whole records bytes p i l → Here a whole records bytes p i
    go (none k) s = absurd (omega arith)
    go (more {l = m} r n) s = record { rest = m; sofar = s; here = r; ahead = n }

module _ {a records bytes : List ℕ} {p : Pairs} {i : ℕ} (t : Meets a) (h : Here a (0 ∷ t.list) records bytes p i) where
  pub ask_pair : ((k : ℕ) → get_or a k 0 < 256) → (c : ℕ) → c ≡ class a i → Paired a p i c
  ask_pair byte c e = record {
    here = omega (arith, h.here.least, h.here.most);
    last = h.sofar.last;
    xs = mdrs a h.rest;
    gap = gaps a (0 ∷ t.list);
    overlap = overlaps a (0 ∷ t.list);
    undefined = undefined_pairs a (0 ∷ t.list);
    sums = rw e h.sofar.pairs;
    gap_small = few_gaps t byte;
    overlap_small = few_overlaps t byte;
    undefined_small = few_undefined t byte;
  }

  pub next : {c u v : ℕ} {records' bytes' : List ℕ} {r : Pairs} → c ≡ class a i → u ≡ size a i → v ≡ size a i
      → records' ≡ set records c (get_or records c 0 + 1) → bytes' ≡ set bytes c (get_or bytes c 0 + u) → PairedOn a p i c r
      → Sofar a (0 ∷ t.list) records' bytes' r (i + v) h.rest
  next {c} {u} {v} {records'} {bytes'} {r} c-is u-is v-is re be q =
      let s = h.sofar in
      let low : c < 9 = omega (arith, h.here.eight) in
      record {
        ahead = rw v-is h.ahead;
        nine = ap length re ∙ length-set records c (get_or records c 0 + 1) ∙ s.nine;
        nine_bytes = ap length be ∙ length-set bytes c (get_or bytes c 0 + u) ∙ s.nine_bytes;
        counts = rw re (raised a (λ (j : ℕ). 1) s.counts c-is refl (omega (arith, s.nine)));
        sizes = rw be (raised a (size a) s.sizes c-is u-is (omega (arith, s.nine_bytes)));
        last = q.last;
        pairs = q.sums (mdrs a h.rest) _ _ _ (rw c-is s.pairs);
      }

-- where none is left
same_classes : (f g : ℕ → ℕ) → ((c : ℕ) → f c ≡ g c) → for_classes f ≡ for_classes g
same_classes f g h = rw (h 1, h 2, h 3, h 4, h 5, h 6, h 7, h 8) refl

pub counted : {a whole records bytes : List ℕ} {p : Pairs} {i : ℕ} (l : List ℕ) → Sofar a whole records bytes p i l → length a ≤ i
    → totals (λ (c : ℕ). get_or records c 0) (λ (c : ℕ). get_or bytes c 0) p.gap p.overlap p.undefined ≡ contribution a whole
counted {a} {whole} {records} {bytes} {p} {i} l s h = go s.ahead s
  where
    done : (f : ℕ → ℕ → ℕ) (n m : ℕ) (o : Option ℕ) → with_left f n o [] ≡ m → n ≡ m
    done f n m None e = omega (arith, e)
    done f n m (Some i) e = omega (arith, e)

    go : {l : List ℕ} → Ahead a i l → Sofar a whole records bytes p i l → totals (λ (c : ℕ). get_or records c 0) (λ (c : ℕ). get_or bytes c 0) p.gap p.overlap p.undefined ≡ contribution a whole
    go (more r n) s = absurd (omega (arith, r.least, r.most))
    go (none k) s =
        let q = s.pairs in
        let g = done (stop_to_start gap_between a) p.gap (gaps a whole) p.last q.gap in
        let o = done (stop_to_start overlap_between a) p.overlap (overlaps a whole) p.last q.overlap in
        let u = done (stop_to_start undefined_between a) p.undefined (undefined_pairs a whole) p.last q.undefined in
        let x : for_classes (λ (c : ℕ). get_or records c 0) ≡ for_classes (records_in a whole) = same_classes (λ (c : ℕ). get_or records c 0) (records_in a whole) (λ c. omega (arith, s.counts.each c)) in
        let y : for_classes (λ (c : ℕ). get_or bytes c 0) ≡ for_classes (bytes_in a whole) = same_classes (λ (c : ℕ). get_or bytes c 0) (bytes_in a whole) (λ c. omega (arith, s.sizes.each c)) in
        cc
