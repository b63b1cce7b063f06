-- THE SAME BUT FOR SPELLING: products that say the same have the same bytes but in numbers and at the end of undefined times. A byte is of the main header's
-- own 20, of a line's frame or value, or of the records after it. Assumes nothing.
use mathlib.Core.Path.{◌≡◌, sym, ap, ◌∙◌}
use mathlib.Core.Bool.{true, false}
use mathlib.Core.Logic.{◌⊎◌, inl, inr}
use mathlib.Core.List.{List}
use Prim.Native.Nat.{ℕ, ◌+◌, ◌-◌, ◌<◌}
use native.Mathlib.Decide.{dec_lt, ℕ_discrete}
use native.Mathlib.Omega.{arith}
use borrow.Author.Tests.{eqb-true}
use lib.Dec.{eqb}
use lib.ListN.{length, get_or, take, drop, length-drop}
use lib.Seq.{get_or-take, get_or-drop, drop_at, length-take-le}
use Rattle.meter.specs.General.{is_none}
use Rattle.meter.proofs.GeneralRuns.{and_true}
use Rattle.text.specs.Field.{is_value}
use Rattle.text.specs.declared.Kind.{Kind}
use Rattle.text.specs.declared.Kind.TheVariants.{Text, Unsigned, Count, Signed, Time, LongTime}
use Rattle.mphr.specs.Layout.{width_of, kind_of, line_start}
use Rattle.mphr.specs.Table.{valued}
use Rattle.mphr.proofs.LayoutLaws.{start_next, start_72}
use Rattle.demands.specs.Product.{Meets}
use Rattle.parts.specs.Parts.{records_at}
use Rattle.parts.specs.Parts as P
use Rattle.parts.proofs.Built.{parts_of}
use Rattle.demands.proofs.WordsLaws.{frame_words}
use Rattle.parts.proofs.Unique.{line_of}
use Rattle.meter.specs.Integer.{Bytes}
use Rattle.whole.specs.Values.{Values, main_of, joined, print, line_in, Right}
use Rattle.whole.specs.Spelled.{Canonical}
use Rattle.whole.specs.Parse.{value_at, line_at, recs_at, parse_at, parse}
use Rattle.whole.specs.Alike.{AnswersAs, InNumber, EndsNone, Respelled, SameBut, FormOf, NonMalleable}
use Rattle.whole.proofs.Moments.{times_same}
use Rattle.whole.proofs.Parsed.{line_in_lem}
use Rattle.whole.proofs.Again.{main_first, recs_again}
use Rattle.whole.proofs.Answers.{same_text, same_time}
use Rattle.whole.proofs.Alike.{says_same, alike_same}
use Rattle.whole.proofs.Saying.{answers_as}
use Rattle.whole.proofs.Respelled.{but_says}
use Rattle.whole.proofs.Starts.{parse_is}
use Rattle.whole.proofs.Inverse.{inverse}

-- ---- a value's bytes
module _ (a b : List ℕ) (i w : ℕ) where
  value_same : (d : Kind) → is_value d a i w ≡ true → is_value d b i w ≡ true → value_at d a i w ≡ value_at d b i w → (j : ℕ) → j < w → (get_or a (i + j) 0 ≡ get_or b (i + j) 0) ⊎ (InNumber d i w (i + j) ⊎ EndsNone d a i (i + j))
  unfolding is_value
  value_same Text e f g j h =
      let s = same_text (take w (drop i a)) (take w (drop i b)) g in
      inl (sym (get_or-take w (drop i a) j 0 h ∙ get_or-drop i a j 0) ∙ ap (λ (x : List ℕ). get_or x j 0) s ∙ get_or-take w (drop i b) j 0 h ∙ get_or-drop i b j 0)
  value_same Unsigned e f g j h = inr (inl (omega arith, omega arith))
  value_same Count e f g j h = inr (inl (omega arith, omega arith))
  value_same Signed e f g j h = inr (inl (omega arith, omega arith))
  value_same Time e f g j h =
      let x = and_true (eqb w 15) _ e in
      let y = and_true (eqb w 15) _ f in
      let q = eqb-true w 15 x.0 in
      go (times_same false a b i i x.1 y.1 (same_time _ _ g) j (omega arith))
    where
      go : (get_or a (i + j) 0 ≡ get_or b (i + j) 0) ⊎ ((is_none 14 a i ≡ true) × (j ≡ 14)) → (get_or a (i + j) 0 ≡ get_or b (i + j) 0) ⊎ (⊥ ⊎ ((is_none 14 a i ≡ true) × (i + j ≡ i + 14)))
      go (inl z) = inl z
      go (inr (z, u)) = inr (inr (z, omega arith))
  value_same LongTime e f g j h =
      let x = and_true (eqb w 18) _ e in
      let y = and_true (eqb w 18) _ f in
      let q = eqb-true w 18 x.0 in
      go (times_same true a b i i x.1 y.1 (same_time _ _ g) j (omega arith))
    where
      go : (get_or a (i + j) 0 ≡ get_or b (i + j) 0) ⊎ ((is_none 17 a i ≡ true) × (j ≡ 17)) → (get_or a (i + j) 0 ≡ get_or b (i + j) 0) ⊎ (⊥ ⊎ ((is_none 17 a i ≡ true) × (i + j ≡ i + 17)))
      go (inl z) = inl z
      go (inr (z, u)) = inr (inr (z, omega arith))

-- ---- OF TWO PRODUCTS THAT SAY THE SAME
module _ (a b : List ℕ) (bs : Bytes a) (cs : Bytes b) (m : Meets a) (n : Meets b) (e : parse_at a m.list ≡ parse_at b n.list) where
  tail_of : (c : List ℕ) → Bytes c → (t : Meets c) → drop 3307 c ≡ joined (recs_at c t.list)
  tail_of c ds t =
      ap (drop 3307) (parts_of c t)
      ∙ drop_at (take 3307 c) (P.joined (records_at c t.list)) 3307 (length-take-le 3307 c (omega (arith, t.come, t.header.least)))
      ∙ sym (recs_again c ds t.come t.records)

  tail_same : drop 3307 a ≡ drop 3307 b
  tail_same = tail_of a bs m ∙ ap (λ (v : Values). joined v.records) e ∙ sym (tail_of b cs n)

  long_same : length a ≡ length b
  long_same = omega (arith, length-drop 3307 a, length-drop 3307 b, ap length tail_same, m.come, m.header.least, n.come, n.header.least)

  abbrev At : ℕ → Type 0
  At j = (get_or a j 0 ≡ get_or b j 0) ⊎ Respelled a b j

  values_same : (k : ℕ) → k < 72 → line_at a k ≡ line_at b k
  values_same k h = sym (line_in_lem a m.list k h) ∙ ap (λ (v : Values). line_in v k) e ∙ line_in_lem b n.list k h

  in_value : (k : ℕ) → k < 72 → (j : ℕ) → j < width_of k → At (line_start k + 32 + j)
  unfolding valued line_at
  in_value k h j l = go (value_same a b (line_start k + 32) (width_of k) (kind_of k) (m.header.lines k h).1 (n.header.lines k h).1 (values_same k h) j l)
    where
      go : (get_or a (line_start k + 32 + j) 0 ≡ get_or b (line_start k + 32 + j) 0) ⊎ (InNumber (kind_of k) (line_start k + 32) (width_of k) (line_start k + 32 + j) ⊎ EndsNone (kind_of k) a (line_start k + 32) (line_start k + 32 + j)) → (get_or a (line_start k + 32 + j) 0 ≡ get_or b (line_start k + 32 + j) 0) ⊎ Respelled a b (line_start k + 32 + j)
      go (inl z) = inl z
      go (inr z) = inr (record { line = k; known = h; says = values_same k h; part = z })

  in_line : (k i : ℕ) → k < 72 → i < width_of k + 33 → Dec (i < 30) → Dec (i ≡ 30) → Dec (i ≡ 31) → Dec (i < 32 + width_of k) → At (line_start k + i)
  in_line k i h l (yes u) _ _ _ = inl ((frame_words a k (m.header.lines k h).0).name i u ∙ sym ((frame_words b k (n.header.lines k h).0).name i u))
  in_line k i h l (no u) (yes v) _ _ = rw v (inl ((frame_words a k (m.header.lines k h).0).equals ∙ sym (frame_words b k (n.header.lines k h).0).equals))
  in_line k i h l (no u) (no v) (yes w) _ = rw w (inl ((frame_words a k (m.header.lines k h).0).space ∙ sym (frame_words b k (n.header.lines k h).0).space))
  in_line k i h l (no u) (no v) (no w) (yes x) =
      let q : line_start k + i ≡ line_start k + 32 + (i - 32) = omega (arith, u, v, w) in
      rw q (in_value k h (i - 32) (omega (arith, u, v, w)))
  in_line k i h l (no u) (no v) (no w) (no x) =
      let q : line_start k + i ≡ line_start k + 32 + width_of k = omega (arith, x) in
      rw q (inl ((frame_words a k (m.header.lines k h).0).feed ∙ sym (frame_words b k (n.header.lines k h).0).feed))

  byte_at : (j : ℕ) → Dec (j < 20) → Dec (j < 3307) → At j
  byte_at j (yes h) _ = inl (sym (main_first a bs m j h) ∙ ap (λ (v : Values). get_or (main_of v) j 0) e ∙ main_first b cs n j h)
  byte_at j (no h) (yes l) =
      let x = line_of j 72 (omega (arith, h)) (omega (arith, start_72)) in
      let k = x.line in
      let i = j - line_start k in
      let q : line_start k + i ≡ j = omega (arith, x.from) in
      rw q at (in_line k i x.below (omega (arith, x.from, x.to, start_next k)) (dec_lt i 30) (ℕ_discrete i 30) (ℕ_discrete i 31) (dec_lt i (32 + width_of k)))
  byte_at j (no h) (no l) =
      let q : 3307 + (j - 3307) ≡ j = omega (arith, l) in
      let c : get_or a (3307 + (j - 3307)) 0 ≡ get_or b (3307 + (j - 3307)) 0 = sym (get_or-drop 3307 a (j - 3307) 0) ∙ ap (λ (x : List ℕ). get_or x (j - 3307) 0) tail_same ∙ get_or-drop 3307 b (j - 3307) 0 in
      inl (rw q at c)

  pub same_but : SameBut a b
  same_but = record { long = long_same; byte = λ j. byte_at j (dec_lt j 20) (dec_lt j 3307) }

-- THE THEOREMS
module _ (a b : List ℕ) (bs : Bytes a) (cs : Bytes b) (m : Meets a) (n : Meets b) where
  says_at : parse a ≡ parse b → parse_at a m.list ≡ parse_at b n.list
  says_at e = sym (parse_is a bs m) ∙ e ∙ parse_is b cs n

  says : AnswersAs a b → parse a ≡ parse b
  says s = parse_is a bs m ∙ says_same a b m n s bs ∙ sym (parse_is b cs n)

form : (a : List ℕ) → Bytes a → Meets a → FormOf a (print (parse a))
form a bs m =
    let v = parse a in
    let r : Right v = inverse.right a bs m in
    let b = print v in
    let cs = inverse.bytes v r in
    let n = inverse.product v r in
    let s : parse a ≡ parse b = sym (inverse.says v r) in
    let e = says_at a b bs cs m n s in
    record { bytes = cs; product = n; canonical = inverse.canonical v r; says = s; answers = answers_as a b bs cs m n e; same = same_but a b bs cs m n e }

only : (a b : List ℕ) → Bytes a → Bytes b → Meets a → Meets b → Canonical b → AnswersAs a b → b ≡ print (parse a)
only a b bs cs m n c s = sym (inverse.again b cs n c) ∙ ap print (sym (says a b bs cs m n s))

pub non_malleable : NonMalleable
non_malleable = record {
  says = says;
  answers = λ a b bs cs m n e. answers_as a b bs cs m n (says_at a b bs cs m n e);
  same = alike_same;
  but = λ a b bs cs m n s. same_but a b bs cs m n (says_same a b m n s bs);
  back = λ a b bs cs m n s. answers_as a b bs cs m n (but_says a b m n s);
  form = form;
  only = only;
}
