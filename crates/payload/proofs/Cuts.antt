-- CUTS AND JOINS OF PRODUCTS THAT DIFFER IN PAYLOAD differ in payload alone, in the same sense (beyond the request): their records are chosen, ordered and
-- pointed to by headers, and their main header says nothing of payload. Whether two products may be joined is another matter: 26 compares the SPHR and
-- the global records whole. Assumes nothing.
use Prim.Native.Nat.{ℕ, ◌+◌, ◌≤◌, ◌<◌}
use native.Mathlib.Omega.{arith}
use mathlib.Core.Path.{◌≡◌, refl, sym, ap, subst, ◌∙◌}
use mathlib.Core.Bool.{Bool, ◌||◌}
use mathlib.Core.List.Memᴰ.{head as top}
use mathlib.Core.List.Memᴰ.{not-nil as nil}
use mathlib.Core.List.Memᴰ.{tail as pop}
use mathlib.Core.List.{List, [], ◌∷◌, Memᴰ as In}
use lib.ListN.{length, get_or, drop, length-drop}
use lib.Seq.{ext_get_or, length-take-le, get_or-take, get_or-drop}
use Rattle.std.specs.declared.option.Option.TheVariants.{None}
use Rattle.mphr.specs.Table.{declared}
use Rattle.demands.specs.Product.{class, size, Records, none, more, Meets}
use Rattle.demands.proofs.Accepted.{one_list}
use Rattle.parts.specs.Parts.{bytes_of, main_of, record_at, records_at}
use Rattle.parts.specs.Only.{is_of, is_in, is_aux}
use Rattle.parts.specs.Cut.{Window, is_chosen, is_kept, cut_parts}
use Rattle.parts.specs.CutHeader.{other_lines, cut_values}
use Rattle.parts.specs.TownCut.{cut_records, IsCut}
use Rattle.parts.specs.Join.{join_parts}
use Rattle.parts.specs.JoinHeader.{join_lines, join_values}
use Rattle.parts.specs.Pass.{Joinable, IsJoin}
use Rattle.parts.specs.Rewritten.{Rewritten, Anew, values_of, count_lines, Holdable}
use Rattle.parts.proofs.Built.{meets_built}
use Rattle.meter.specs.Integer.{Bytes}
use Rattle.parts.proofs.CutHeaderLaws.{parts_byte, cut_is_built}
use Rattle.parts.proofs.JoinHeaderLaws.{join_is_built}
use Rattle.parts.proofs.Unique.{one_rewritten}
use Rattle.payload.specs.Apart.{Apart}
use Rattle.payload.proofs.ApartLaws.{ipr_27}
use Rattle.payload.proofs.Twins.{Twins, twins, alike}
use Rattle.payload.proofs.Fields.{main_over}
use Rattle.payload.proofs.Parted.{Pay, Paid, Headed, class_paid, start_paid, paid_only, paid_append, paid_bytes, paid_length, paid_count, paid_first, paid_last, paid_assembled, paid_apart}
use Rattle.payload.proofs.Parted as P

-- ---- THE RECORDS OF THE TWO
ends_by : {a : List ℕ} {i p : ℕ} {l : List ℕ} → Records a i p l → i ≤ declared a
ends_by (none e) = omega arith
ends_by (more r _ ts) = omega (arith, ends_by ts)

within_it : {a : List ℕ} {i p t : ℕ} {l : List ℕ} → Records a i p l → In t l → (20 ≤ size a t) × (t + size a t ≤ declared a)
within_it (none e) h = absurd (nil h)
within_it {a} (more r _ ts) (top e) = omega (arith, ap (size a) e, r.least, ends_by ts)
within_it (more r _ ts) (pop h) = within_it ts h

record Stands (a : List ℕ) (i : ℕ) : Type 0 where
  long : length (record_at a i) ≡ size a i
  least : 20 ≤ size a i
  byte : (j : ℕ) → j < size a i → get_or (record_at a i) j 0 ≡ get_or a (i + j) 0

stands : {a : List ℕ} (t : Meets a) (i : ℕ) → In i t.list → Stands a i
stands {a} t i m =
    let w = within_it t.records m in
    record {
      long = length-take-le (size a i) (drop i a) (omega (arith, w, t.come, length-drop i a));
      least = w.0;
      byte = λ j h. get_or-take (size a i) (drop i a) j 0 h ∙ get_or-drop i a j 0;
    }

module _ {a b : List ℕ} (t : Twins a b) where
  pay_at : (i : ℕ) → In i t.one.list → Pay (record_at a i) (record_at b i)
  pay_at i m =
      let x = stands t.one i m in
      let y = stands t.two i (subst (In i) (sym t.list) m) in
      let z = x.least in
      let v = y.least in
      record {
        long = x.long ∙ sizes ∙ sym y.long;
        header = λ j h. x.byte j (omega arith) ∙ t.repaid.headers i m j h ∙ sym (y.byte j (omega arith));
        ipr = λ c.
            let e : i + 0 ≡ i = omega arith in
            let d : class a i ≡ 3 = sym (rw e at (x.byte 0 (omega arith))) ∙ c in
            let n = ipr_27 t.one.records m d in
            ext_get_or 0 (record_at a i) (record_at b i) (x.long ∙ sizes ∙ sym y.long)
            (λ j h. x.byte j (omega (arith, x.long)) ∙ t.repaid.iprs i m d j (omega (arith, x.long)) ∙ sym (y.byte j (omega (arith, x.long, sizes))));
      }
    where
      sizes : size a i ≡ size b i
      sizes = (alike t i (pop m)).size

  paid_at : (l : List ℕ) → ((j : ℕ) → In j l → In j t.one.list) → Paid (records_at a l) (records_at b l)
  paid_at [] sub = P.none
  paid_at (i ∷ l) sub = P.more (pay_at i (sub i (top refl))) (paid_at l (λ j n. sub j (pop n)))

  -- whatever says that they are products
  pub paid_records : (u : Meets a) (v : Meets b) → Paid (records_at a u.list) (records_at b v.list)
  paid_records u v =
      let e = one_list t.one u in
      let f : t.one.list ≡ v.list = sym t.list ∙ one_list t.two v in
      subst (λ (l : List ℕ). Paid (records_at a u.list) (records_at b l)) f (subst (λ (l : List ℕ). Paid (records_at a l) (records_at b t.one.list)) e (paid_at t.one.list (λ j n. n)))

-- ---- THE TESTS
of_class : (c : ℕ) → Headed (is_of c)
of_class c = record { same = λ r s p. rw (class_paid p) refl }

in_classes : (c d : ℕ) → Headed (is_in c d)
in_classes c d = record { same = λ r s p. rw (class_paid p) refl }

chosen_same : (w : Window) {r s : List ℕ} → Pay r s → is_chosen w r ≡ is_chosen w s
unfolding is_chosen
chosen_same w p = rw (class_paid p, start_paid p) refl

chosen : (w : Window) → Headed (is_chosen w)
chosen w = record { same = λ r s p. chosen_same w p }

kept_by : (w : Window) → Headed (is_kept w)
kept_by w = record { same = λ r s p. ap (λ (b : Bool). b || is_chosen w r) ((in_classes 4 7).same r s p) ∙ ap (λ (b : Bool). is_aux s || b) ((chosen w).same r s p) }

same_counts : {ps qs : List (List ℕ)} (l : List Anew) → Paid ps qs → count_lines ps l ≡ count_lines qs l
same_counts l p = rw (paid_bytes p, paid_length p, paid_count 2 p, paid_count 3 p, paid_count 4 p, paid_count 5 p, paid_count 6 p, paid_count 7 p, paid_count 8 p)

-- ---- THE CUT
module _ (m : List ℕ) (w : Window) {rs ss : List (List ℕ)} (p : Paid rs ss) where
  pub cut_paid : Paid (cut_parts m w rs) (cut_parts m w ss)
  cut_paid = paid_assembled m (paid_only (of_class 2) p) (paid_only (kept_by w) p)

  other_same : other_lines m w rs ≡ other_lines m w ss
  other_same = rw (paid_first None (paid_only (chosen w) p), paid_last None (paid_only (chosen w) p))

  pub cut_values_lem : cut_values m w rs ≡ cut_values m w ss
  cut_values_lem = ap (λ (l : List Anew). values_of l) (same_counts (other_lines m w rs) cut_paid ∙ ap (count_lines (cut_parts m w ss)) other_same)

pub apart_cut : {a b c d : List ℕ} {w : Window} → Apart a b → Bytes a → (k : IsCut a w c) → Holdable (cut_records a w k.product) → IsCut b w d → Apart c d
apart_cut {a} {b} {c} {d} {w} x byte k h l =
    let t = twins x in
    let m = main_of a in
    let rs = records_at a k.product.list in
    let ss = records_at b l.product.list in
    let e : main_of b ≡ m = sym (main_over t) in
    let p = paid_records t k.product l.product in
    let y : Rewritten m l.header (cut_values m w ss) = subst (λ (z : List ℕ). Rewritten z l.header (cut_values z w ss)) e l.lines in
    let z : Rewritten m l.header (cut_values m w rs) = subst (Rewritten m l.header) (sym (cut_values_lem m w p)) y in
    let n : l.header ≡ k.header = one_rewritten z k.lines in
    let v : d ≡ bytes_of k.header (cut_parts m w ss) = l.whole ∙ ap (λ (q : List ℕ). bytes_of q (cut_parts (main_of b) w ss)) n ∙ ap (λ (q : List ℕ). bytes_of k.header (cut_parts q w ss)) e in
    let g = cut_is_built w (meets_built a k.product) (λ r n. parts_byte a byte k.product.list r n) h k.lines in
    subst (λ (q : List ℕ). Apart q d) (sym k.whole) (subst (Apart (bytes_of k.header (cut_parts m w rs))) (sym v) (paid_apart k.header (cut_parts m w rs) (cut_parts m w ss) g (cut_paid m w p)))

-- ---- THE JOIN
join_paid : (m : List ℕ) {rs rs' ss ss' : List (List ℕ)} → Paid rs rs' → Paid ss ss' → Paid (join_parts m rs ss) (join_parts m rs' ss')
join_paid m p q =
    paid_assembled m (paid_only (of_class 2) p)
    (paid_append (paid_only (in_classes 4 5) p)
    (paid_append (paid_only (in_classes 6 7) p)
    (paid_append (paid_only (in_classes 6 7) q) (paid_append (paid_only (of_class 8) p) (paid_only (of_class 8) q)))))

pub apart_join :
    {a b a' b' c d : List ℕ} → Apart a a' → Apart b b' → (t : Meets a) (u : Meets b) (t' : Meets a') (u' : Meets b')
    → Joinable (main_of a) (main_of b) (records_at a t.list) (records_at b u.list)
    → IsJoin (main_of a) (main_of b) (records_at a t.list) (records_at b u.list) c
    → IsJoin (main_of a') (main_of b') (records_at a' t'.list) (records_at b' u'.list) d → Apart c d
apart_join {a} {b} {a'} {b'} {c} {d} x y t u t' u' h k l =
    let m = main_of a in
    let n = main_of b in
    let rs = records_at a t.list in
    let ss = records_at b u.list in
    let rs' = records_at a' t'.list in
    let ss' = records_at b' u'.list in
    let em : main_of a' ≡ m = sym (main_over (twins x)) in
    let en : main_of b' ≡ n = sym (main_over (twins y)) in
    let p = paid_records (twins x) t t' in
    let q = paid_records (twins y) u u' in
    let f : IsJoin m n rs' ss' d = subst (λ (z : List ℕ). IsJoin m z rs' ss' d) en (subst (λ (z : List ℕ). IsJoin z (main_of b') rs' ss' d) em l) in
    let v : join_values m n rs ss ≡ join_values m n rs' ss' = ap (λ (l : List Anew). values_of l) (same_counts (join_lines m n) (join_paid m p q)) in
    let z : f.header ≡ k.header = one_rewritten (subst (Rewritten m f.header) (sym v) f.lines) k.lines in
    let w : d ≡ bytes_of k.header (join_parts m rs' ss') = f.whole ∙ ap (λ (q : List ℕ). bytes_of q (join_parts m rs' ss')) z in
    let g = join_is_built (meets_built a t) (meets_built b u) h.sums h.holdable k.lines in
    subst (λ (q : List ℕ). Apart q d) (sym k.whole) (subst (Apart (bytes_of k.header (join_parts m rs ss))) (sym w) (paid_apart k.header (join_parts m rs ss) (join_parts m rs' ss') g (join_paid m p q)))
