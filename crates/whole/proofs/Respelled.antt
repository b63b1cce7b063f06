-- THE SAME BUT FOR SPELLING SAYS THE SAME: where no byte of a value is respelled its bytes are the same, and where one is, its line says the same; the rest of
-- the bytes are the same. Assumes nothing.
use mathlib.Core.Path.{◌≡◌, refl, sym, ap, ◌∙◌}
use mathlib.Core.Bool.{Bool, true, false}
use mathlib.Core.Logic.{◌⊎◌, inl, inr, ⊎_elim}
use mathlib.Core.List.{List, [], ◌∷◌}
use Prim.Native.Nat.{ℕ, zero, suc, ◌+◌, ◌-◌, ◌≤◌, ◌<◌}
use native.Mathlib.Decide.{dec_lt, ℕ_discrete}
use native.Mathlib.Omega.{arith}
use borrow.Author.Tests.{eqb-true, le-leb}
use lib.Dec.{eqb}
use lib.ListN.{length, get_or, take, drop, length-take, length-drop}
use lib.Seq.{get_or-take, get_or-drop, ext_get_or}
use Rattle.calendar.specs.Said.{answer}
use Rattle.meter.specs.General.{digits_of, is_general, general_at, general_read_at}
use Rattle.std.specs.declared.option.Option.{Option}
use Rattle.meter.specs.declared.general.Moment.{Moment}
use Rattle.meter.proofs.IntegerLaws.{be_at_same}
use Rattle.meter.proofs.GeneralRuns.{and_true}
use Rattle.record.specs.Header.{header_at}
use Rattle.record.specs.Pointer.{pointer_at}
use Rattle.record.specs.declared.header.Header.{Header}
use Rattle.text.specs.Field.{is_value, number_at}
use Rattle.text.specs.declared.Kind.{Kind}
use Rattle.text.specs.declared.Kind.TheVariants.{Text, Unsigned, Count, Signed, Time, LongTime}
use Rattle.text.proofs.Alike.{Alike, x_alike, integer_alike, general_read_alike}
use Rattle.mphr.specs.Layout.{width_of, kind_of, line_start}
use Rattle.mphr.specs.Table.{declared, valued}
use Rattle.mphr.proofs.LayoutLaws.{start_next, start_mono, start_72}
use Rattle.demands.specs.Product.{class, size, Records, none, more, Meets}
use Rattle.parts.proofs.Unique.{first_line}
use Rattle.parts.proofs.Local.{At}
use Rattle.whole.specs.Values.{text, number, time, Rec, plain, pointer}
use Rattle.whole.specs.Parse.{value_at, line_at, lines_at, rec_at, recs_at, parse_at}
use Rattle.whole.specs.Alike.{InNumber, EndsNone, Respelled, SameBut}
use Rattle.whole.proofs.Heads.{header_at_lem, pointer_at_lem}
use Rattle.whole.proofs.Parsed.{records_le, lines_length, line_in_lem, line_come}
use Rattle.whole.proofs.Alike.{rec_pointer, rec_plain, part_same, together}

-- ---- a respelled byte lies in its line's value
part_in : (d : Kind) (a : List ℕ) (i w j : ℕ) → is_value d a i w ≡ true → InNumber d i w j ⊎ EndsNone d a i j → (i ≤ j) × (j < i + w)
unfolding is_value
part_in Text a i w j e (inl p) = absurd p
part_in Text a i w j e (inr p) = absurd p
part_in Unsigned a i w j e (inl p) = p
part_in Unsigned a i w j e (inr p) = absurd p
part_in Count a i w j e (inl p) = p
part_in Count a i w j e (inr p) = absurd p
part_in Signed a i w j e (inl p) = p
part_in Signed a i w j e (inr p) = absurd p
part_in Time a i w j e (inl p) = absurd p
part_in Time a i w j e (inr p) = let q = eqb-true w 15 (and_true (eqb w 15) _ e).0 in (omega (arith, p.1), omega (arith, p.1))
part_in LongTime a i w j e (inl p) = absurd p
part_in LongTime a i w j e (inr p) = let q = eqb-true w 18 (and_true (eqb w 18) _ e).0 in (omega (arith, p.1), omega (arith, p.1))

-- a byte is in one line's value at most
one_line : (k l j : ℕ) → line_start k + 32 ≤ j → j < line_start k + 32 + width_of k → line_start l + 32 ≤ j → j < line_start l + 32 + width_of l → k ≡ l
one_line k l j a b c d = go (dec_lt k l) (dec_lt l k)
  where
    go : Dec (k < l) → Dec (l < k) → k ≡ l
    go (yes h) _ = absurd (omega (arith, start_next k, start_mono {j = suc k} {k = l} h))
    go (no g) (yes h) = absurd (omega (arith, start_next l, start_mono {j = suc l} {k = k} h))
    go (no g) (no h) = omega (arith, g, h)

-- ---- the same bytes, the same value
answer_same : (x y : Option Moment) → answer x ≡ answer y → x ≡ y
answer_same x y e = cc

read_is : (long : Bool) (a : List ℕ) (i : ℕ) → i + (digits_of long + 1) ≤ length a → is_general (digits_of long) a i ≡ true → general_read_at long a i ≡ answer (general_at (digits_of long) a i)
read_is long a i h e = rw (le-leb (i + (digits_of long + 1)) (length a) h, e)

module _ (a b : List ℕ) (i w : ℕ) (same : Alike a b i i w) (h : i + w ≤ length a) (l : i + w ≤ length b) where
  time_same : (long : Bool) → w ≡ digits_of long + 1 → is_general (digits_of long) a i ≡ true → is_general (digits_of long) b i ≡ true → general_at (digits_of long) a i ≡ general_at (digits_of long) b i
  time_same long q e f =
      let n = digits_of long in
      answer_same (general_at n a i) (general_at n b i)
      (sym (read_is long a i (omega arith) e) ∙ general_read_alike same long (omega arith) (omega arith) (omega arith) ∙ read_is long b i (omega arith) f)

  number_same : number_at a i w ≡ number_at b i w
  number_same = rw (x_alike same, integer_alike same)

  text_same : take w (drop i a) ≡ take w (drop i b)
  text_same =
      ext_get_or 0 (take w (drop i a)) (take w (drop i b)) (simp (length-take, length-drop) (omega arith))
      (λ j u. let q : j < w = omega (arith, length-take w (drop i a)) in get_or-take w (drop i a) j 0 q ∙ get_or-drop i a j 0 ∙ same.byte j q ∙ sym (get_or-take w (drop i b) j 0 q ∙ get_or-drop i b j 0))

  value_same : (d : Kind) → is_value d a i w ≡ true → is_value d b i w ≡ true → value_at d a i w ≡ value_at d b i w
  unfolding is_value
  value_same Text e f = ap text text_same
  value_same Unsigned e f = ap number number_same
  value_same Count e f = ap number number_same
  value_same Signed e f = ap number number_same
  value_same Time e f = let x = and_true (eqb w 15) _ e in ap time (time_same false (eqb-true w 15 x.0) x.1 (and_true (eqb w 15) _ f).1)
  value_same LongTime e f = let x = and_true (eqb w 18) _ e in ap time (time_same true (eqb-true w 18 x.0) x.1 (and_true (eqb w 18) _ f).1)

-- ---- OF TWO PRODUCTS
record Found (a b : List ℕ) (i n : ℕ) : Type 0 where
  at : ℕ
  below : at < n
  there : Respelled a b (i + at)

module _ (a b : List ℕ) (m : Meets a) (n : Meets b) (s : SameBut a b) where
  place : (j : ℕ) (r : Respelled a b j) → (line_start r.line + 32 ≤ j) × (j < line_start r.line + 32 + width_of r.line)
  unfolding valued
  place j r = part_in (kind_of r.line) a (line_start r.line + 32) (width_of r.line) j (m.header.lines r.line r.known).1 r.part

  outside : (j : ℕ) → (j < 20) ⊎ (3307 ≤ j) → get_or a j 0 ≡ get_or b j 0
  outside j o = ⊎_elim (λ e. e) (λ r. absurd (no r o)) (s.byte j)
    where
      no : Respelled a b j → (j < 20) ⊎ (3307 ≤ j) → ⊥
      no r (inl h) = omega (arith, place j r, start_mono {j = 0} {k = r.line} (omega arith), first_line)
      no r (inr h) = omega (arith, place j r, start_next r.line, start_mono {j = suc r.line} {k = 72} r.known, start_72)

  -- the bytes of a value, or one that is respelled
  search : (i k : ℕ) → ((j : ℕ) → j < k → get_or a (i + j) 0 ≡ get_or b (i + j) 0) ⊎ Found a b i k
  search i zero = inl (λ j h. absurd (omega arith))
  search i (suc k) = go (search i k) (s.byte (i + k))
    where
      go : ((j : ℕ) → j < k → get_or a (i + j) 0 ≡ get_or b (i + j) 0) ⊎ Found a b i k → (get_or a (i + k) 0 ≡ get_or b (i + k) 0) ⊎ Respelled a b (i + k) → ((j : ℕ) → j < suc k → get_or a (i + j) 0 ≡ get_or b (i + j) 0) ⊎ Found a b i (suc k)
      go (inr f) _ = inr (record { at = f.at; below = omega (arith, f.below); there = f.there })
      go (inl f) (inr r) = inr (record { at = k; below = omega arith; there = r })
      go (inl f) (inl e) = inl (λ j h. last j h (dec_lt j k))
        where
          last : (j : ℕ) → j < suc k → Dec (j < k) → get_or a (i + j) 0 ≡ get_or b (i + j) 0
          last j h (yes l) = f j l
          last j h (no l) = let q : j ≡ k = omega (arith, l) in rw q e

  line_same : (k : ℕ) → k < 72 → line_at a k ≡ line_at b k
  unfolding line_at valued
  line_same k h = go (search (line_start k + 32) (width_of k))
    where
      go : ((j : ℕ) → j < width_of k → get_or a (line_start k + 32 + j) 0 ≡ get_or b (line_start k + 32 + j) 0) ⊎ Found a b (line_start k + 32) (width_of k) → value_at (kind_of k) a (line_start k + 32) (width_of k) ≡ value_at (kind_of k) b (line_start k + 32) (width_of k)
      go (inl f) =
          value_same a b (line_start k + 32) (width_of k) (record { byte = f }) (line_come a m k h) (line_come b n k h) (kind_of k) (m.header.lines k h).1 (n.header.lines k h).1
      go (inr f) =
          let p = place (line_start k + 32 + f.at) f.there in
          let q : f.there.line ≡ k = one_line f.there.line k (line_start k + 32 + f.at) p.0 p.1 (omega arith) (omega (arith, f.below)) in
          rw q at f.there.says

  lines_same : lines_at a 0 72 ≡ lines_at b 0 72
  lines_same =
      ext_get_or (text []) (lines_at a 0 72) (lines_at b 0 72) (lines_length a 0 72 ∙ sym (lines_length b 0 72))
      (λ k h. let l : k < 72 = omega (arith, lines_length a 0 72) in line_in_lem a [] k l ∙ line_same k l ∙ sym (line_in_lem b [] k l))

  -- the headers and the records
  from_at : (i k : ℕ) → ((j : ℕ) → j < k → get_or a (i + j) 0 ≡ get_or b (i + j) 0) → At a i (take k (drop i b))
  from_at i k f = record { byte = λ j h. let q : j < k = omega (arith, length-take k (drop i b)) in f j q ∙ sym (get_or-take k (drop i b) j 0 q ∙ get_or-drop i b j 0) }

  itself : (i k : ℕ) → At b i (take k (drop i b))
  itself i k = record { byte = λ j h. let q : j < k = omega (arith, length-take k (drop i b)) in sym (get_or-take k (drop i b) j 0 q ∙ get_or-drop i b j 0) }

  head_same : (i : ℕ) → i + 20 ≤ length b → ((j : ℕ) → j < 20 → get_or a (i + j) 0 ≡ get_or b (i + j) 0) → header_at a i ≡ header_at b i
  head_same i l f =
      let o : 20 ≤ length (take 20 (drop i b)) = simp (length-take, length-drop) (omega arith) in
      header_at_lem (from_at i 20 f) o ∙ sym (header_at_lem (itself i 20) o)

  pointer_same : (i : ℕ) → i + 27 ≤ length b → ((j : ℕ) → j < 27 → get_or a (i + j) 0 ≡ get_or b (i + j) 0) → pointer_at a i ≡ pointer_at b i
  pointer_same i l f =
      let o : 27 ≤ length (take 27 (drop i b)) = simp (length-take, length-drop) (omega arith) in
      pointer_at_lem (from_at i 27 f) o ∙ sym (pointer_at_lem (itself i 27) o)

  later : (i : ℕ) → 3307 ≤ i → (j : ℕ) → get_or a (i + j) 0 ≡ get_or b (i + j) 0
  later i h j = outside (i + j) (inr (omega arith))

  size_same : (i : ℕ) → 3307 ≤ i → size a i ≡ size b i
  size_same i h = be_at_same a b (i + 4) (i + 4) 4 (λ k l. outside (i + 4 + k) (inr (omega arith)))

  class_same : (i : ℕ) → 3307 ≤ i → class a i ≡ class b i
  class_same i h = outside i (inr h)

  sized : declared a ≡ declared b
  sized = sym m.come ∙ s.long ∙ n.come

  list_same : {i p q : ℕ} {k l : List ℕ} → 3307 ≤ i → Records a i p k → Records b i q l → k ≡ l
  list_same h (none e) (none f) = refl
  list_same h (none e) (more y _ us) = absurd (omega (arith, sized, y.least, records_le us))
  list_same h (more x _ ts) (none f) = absurd (omega (arith, sized, x.least, records_le ts))
  list_same {i} h (more x _ ts) (more y _ us) = ap (λ (l : List ℕ). i ∷ l) (list_same (omega arith) ts (rw (sym (size_same i h)) at us))

  rec_same : (i : ℕ) → 3307 ≤ i → 20 ≤ size a i → (class a i ≡ 3 → size a i ≡ 27) → i + size a i ≤ length a → rec_at a i ≡ rec_at b i
  rec_same i h o z l = go (ℕ_discrete (class a i) 3)
    where
      long : i + size a i ≤ length b
      long = omega (arith, s.long)

      go : Dec (class a i ≡ 3) → rec_at a i ≡ rec_at b i
      go (yes c) = rec_pointer a i c ∙ ap pointer (pointer_same i (omega (arith, z c, long)) (λ j _. later i h j)) ∙ sym (rec_pointer b i (sym (class_same i h) ∙ c))
      go (no c) =
          rec_plain a i c
          ∙ ap (λ (x : Header). plain x (take (size a i - 20) (drop (i + 20) a))) (head_same i (omega (arith, long)) (λ j _. later i h j))
          ∙ ap (plain (header_at b i)) (part_same a b i (size a i) (size b i) (size_same i h) l long (λ j _ _. later i h j))
          ∙ sym (rec_plain b i (λ q. c (class_same i h ∙ q)))

  recs_same : {i p : ℕ} {l : List ℕ} → 3307 ≤ i → Records a i p l → recs_at a l ≡ recs_at b l
  recs_same h (none e) = refl
  recs_same h (more {i = i} {l = l} x _ ts) =
      ap (λ (r : Rec). r ∷ recs_at a l) (rec_same i h x.least x.ipr (omega (arith, records_le ts, m.come)))
      ∙ ap (λ (t : List Rec). rec_at b i ∷ t) (recs_same (omega arith) ts)

  -- THE LAW
  pub but_says : parse_at a m.list ≡ parse_at b n.list
  but_says =
      together (head_same 0 (omega (arith, n.come, n.header.least)) (λ j h. outside (0 + j) (inl (omega arith)))) lines_same
      (recs_same (omega arith) m.records ∙ ap (recs_at b) (list_same (omega arith) m.records n.records))
