-- A PRODUCT'S PARTS IN WORDS (specs/Words.antt): the tests that `Meets` shares with the table of faults say what the words say, both ways, for the main
-- header and for each record. Test by test; a value's by text's own law (Meaning). Assumes nothing.
use Prim.Native.Nat.{ℕ, ◌+◌, ◌*◌, ◌≤◌, ◌<◌}
use native.Mathlib.Decide.{dec_lt}
use native.Mathlib.Omega.{arith}
use mathlib.Core.Path.{◌≡◌, refl, sym}
use mathlib.Core.Bool.{Bool, true, false, cond, not, ◌&&◌, ◌||◌, true≢false}
use mathlib.Core.Logic.{◌⊎◌, inl, inr}
use mathlib.Core.List.{List}
use borrow.Author.Tests.{eqb-true, eq-eqb, leb-true, le-leb, ltb-true, ltb-false, lt-ltb, le-ltb}
use lib.Dec.{eqb, leb, ltb}
use lib.ListN.{get_or}
use Rattle.calendar.specs.Said.{answer}
use Rattle.meter.specs.Integer.{be_at}
use Rattle.meter.specs.General.{lead}
use Rattle.meter.specs.Time.{last_milli, is_time, time_at, compared}
use Rattle.std.specs.declared.option.Option.TheVariants.{Some, None}
use Rattle.std.specs.declared.cmp.Ordering.TheVariants.{Less, Equal, Greater}
use Rattle.std.specs.declared.option.Option.{Option}
use Rattle.meter.specs.declared.time.Time.{Time}
use Rattle.meter.specs.Instant as T
use Rattle.meter.proofs.GeneralRuns.{lead_is, lead_below}
use Rattle.record.specs.Header.{is_class, is_group}
use Rattle.record.specs.Times.{is_after, timed_at}
use Rattle.record.proofs.FieldLaws.{both}
use Rattle.text.specs.Grammar.{ValueIn}
use Rattle.text.proofs.Meaning.{value_means, means_value}
use Rattle.mphr.specs.Layout.{names, width_of, kind_of, line_start}
use Rattle.mphr.specs.Table.{headed, named, framed, valued}
use Rattle.demands.specs.Product.{MainHeader, class, group, IsRecord}
use Rattle.demands.specs.Words.{FrameIn, RightTime, NotAfter, TimesIn, MainIn, RecordIn}

together : {x y : Bool} → x ≡ true → y ≡ true → x && y ≡ true
together p q = rw (p, q)

-- ---- a line
pub frame_words : (a : List ℕ) (k : ℕ) → framed a k ≡ true → FrameIn a k
unfolding framed named
frame_words a k e =
    let f : ℕ → Bool = λ (j : ℕ). eqb (get_or a (line_start k + j) 0) (get_or names (30 * k + j) 0) in
    let p = both (eqb (lead f 30) 30 && (eqb (get_or a (line_start k + 30) 0) 61 && eqb (get_or a (line_start k + 31) 0) 32)) _ e in
    let q = both (eqb (lead f 30) 30) _ p.0 in
    let r = both (eqb (get_or a (line_start k + 30) 0) 61) _ q.1 in
    record {
      name = λ j h. eqb-true _ _ (lead_below f 30 j (omega (arith, eqb-true (lead f 30) 30 q.0)));
      equals = eqb-true _ _ r.0;
      space = eqb-true _ _ r.1;
      feed = eqb-true _ _ p.1;
    }

words_frame : (a : List ℕ) (k : ℕ) → FrameIn a k → framed a k ≡ true
unfolding framed named
words_frame a k w =
    let f : ℕ → Bool = λ (j : ℕ). eqb (get_or a (line_start k + j) 0) (get_or names (30 * k + j) 0) in
    let n : lead f 30 ≡ 30 = lead_is f 30 30 (omega arith) (λ j h. eq-eqb _ _ (w.name j h)) (λ h. absurd (omega arith)) in
    together (together (eq-eqb (lead f 30) 30 n) (together (eq-eqb _ _ w.equals) (eq-eqb _ _ w.space))) (eq-eqb _ _ w.feed)

value_words : (a : List ℕ) (k : ℕ) → valued a k ≡ true → ValueIn (kind_of k) a (line_start k + 32) (width_of k)
unfolding valued
value_words a k e = value_means (kind_of k) a (line_start k + 32) (width_of k) e

words_value : (a : List ℕ) (k : ℕ) → ValueIn (kind_of k) a (line_start k + 32) (width_of k) → valued a k ≡ true
unfolding valued
words_value a k v = means_value (kind_of k) a (line_start k + 32) (width_of k) v

-- ---- times
right_words : (t : Option Time) → is_time t ≡ true → RightTime t
right_words None e = tt
right_words (Some t) e = leb-true t.milli (last_milli t.day) e

words_right : (t : Option Time) → RightTime t → is_time t ≡ true
words_right None r = refl
words_right (Some t) r = le-leb t.milli (last_milli t.day) r

abbrev outcome : Bool → Bool → Bool → Bool → Bool
outcome x y z w = not (is_after (answer (cond x Less (cond y Greater (cond z Less (cond w Greater Equal))))))

module _ (d m e n : ℕ) where
  by_tests : (x y z w : Bool) → ltb d e ≡ x → ltb e d ≡ y → ltb m n ≡ z → ltb n m ≡ w → outcome x y z w ≡ true → (d < e) ⊎ ((d ≡ e) × (m ≤ n))
  by_tests true y z w p q r s o = inl (ltb-true d e p)
  by_tests false true z w p q r s o = absurd (true≢false (sym o))
  by_tests false false true w p q r s o = inr (omega (arith, ltb-false d e p, ltb-false e d q), omega (arith, ltb-true m n r))
  by_tests false false false true p q r s o = absurd (true≢false (sym o))
  by_tests false false false false p q r s o = inr (omega (arith, ltb-false d e p, ltb-false e d q), ltb-false n m s)

  to_tests : (d < e) ⊎ ((d ≡ e) × (m ≤ n)) → outcome (ltb d e) (ltb e d) (ltb m n) (ltb n m) ≡ true
  to_tests (inl l) = rw (lt-ltb d e l)
  to_tests (inr (q, l)) = go (dec_lt m n)
    where
      go : Dec (m < n) → outcome (ltb d e) (ltb e d) (ltb m n) (ltb n m) ≡ true
      go (yes h) = rw (le-ltb d e (omega arith), le-ltb e d (omega arith), lt-ltb m n h)
      go (no h) = rw (le-ltb d e (omega arith), le-ltb e d (omega arith), le-ltb m n (omega (arith, h)), le-ltb n m l)

order_words : (t u : Option Time) → is_time t ≡ true → is_time u ≡ true → not (is_after (compared t u)) ≡ true → NotAfter t u
order_words None u p q o = tt
order_words (Some t) None p q o = tt
order_words (Some t) (Some u) p q o = by_tests t.day t.milli u.day u.milli (ltb t.day u.day) (ltb u.day t.day) (ltb t.milli u.milli) (ltb u.milli t.milli) refl refl refl refl (rw (p, q) at o)

words_order : (t u : Option Time) → is_time t ≡ true → is_time u ≡ true → NotAfter t u → not (is_after (compared t u)) ≡ true
words_order None u p q w = refl
words_order (Some t) None p q w = refl
words_order (Some t) (Some u) p q w = rw (p, q) (to_tests t.day t.milli u.day u.milli w)

times_words : (a : List ℕ) (i : ℕ) → timed_at a i ≡ true → TimesIn a i
unfolding timed_at
times_words a i e =
    let p = both (is_time (time_at a (i + 8)) && is_time (time_at a (i + 14))) _ e in
    let q = both (is_time (time_at a (i + 8))) _ p.0 in
    let t = time_at a (i + 8) in
    let u = time_at a (i + 14) in
    record { start = right_words t q.0; stop = right_words u q.1; ordered = order_words t u q.0 q.1 p.1 }

words_times : (a : List ℕ) (i : ℕ) → TimesIn a i → timed_at a i ≡ true
unfolding timed_at
words_times a i w =
    let p = words_right (time_at a (i + 8)) w.start in
    let q = words_right (time_at a (i + 14)) w.stop in
    together (together p q) (words_order (time_at a (i + 8)) (time_at a (i + 14)) p q w.ordered)

-- ---- classes and groups
group_words : (g : ℕ) → is_group g ≡ true → (g ≤ 13) ⊎ ((g ≡ 15) ⊎ (g ≡ 99))
unfolding is_group
group_words g e = go (leb g 13) refl (eqb g 15) refl (eqb g 99) refl e
  where
    go : (x : Bool) → leb g 13 ≡ x → (y : Bool) → eqb g 15 ≡ y → (z : Bool) → eqb g 99 ≡ z → x || (y || z) ≡ true → (g ≤ 13) ⊎ ((g ≡ 15) ⊎ (g ≡ 99))
    go true p y q z r _ = inl (leb-true g 13 p)
    go false p true q z r _ = inr (inl (eqb-true g 15 q))
    go false p false q true r _ = inr (inr (eqb-true g 99 r))
    go false p false q false r t = absurd (true≢false (sym t))

words_group : (g : ℕ) → (g ≤ 13) ⊎ ((g ≡ 15) ⊎ (g ≡ 99)) → is_group g ≡ true
unfolding is_group
words_group g (inl h) = rw (le-leb g 13 h)
words_group g (inr (inl e)) = rw e
words_group g (inr (inr e)) = rw e

class_words : (c : ℕ) → is_class c ≡ true → (1 ≤ c) × (c ≤ 8)
unfolding is_class
class_words c e = let p = both (leb 1 c) _ e in (leb-true 1 c p.0, leb-true c 8 p.1)

words_class : (c : ℕ) → 1 ≤ c → c ≤ 8 → is_class c ≡ true
unfolding is_class
words_class c h k = together (le-leb 1 c h) (le-leb c 8 k)

-- ---- THE MAIN HEADER
head_words : (a : List ℕ) → headed a ≡ true → (get_or a 0 0 ≡ 1) × (get_or a 1 0 ≡ 0) × (get_or a 2 0 ≡ 0) × (be_at a 4 4 ≡ 3307)
unfolding headed
head_words a e =
    let p = both (eqb (get_or a 0 0) 1 && (eqb (get_or a 1 0) 0 && eqb (get_or a 2 0) 0)) _ e in
    let q = both (eqb (get_or a 0 0) 1) _ p.0 in
    let r = both (eqb (get_or a 1 0) 0) _ q.1 in
    (eqb-true _ _ q.0, eqb-true _ _ r.0, eqb-true _ _ r.1, eqb-true _ _ p.1)

words_head : (a : List ℕ) → get_or a 0 0 ≡ 1 → get_or a 1 0 ≡ 0 → get_or a 2 0 ≡ 0 → be_at a 4 4 ≡ 3307 → headed a ≡ true
unfolding headed
words_head a c g s z = together (together (eq-eqb _ _ c) (together (eq-eqb _ _ g) (eq-eqb _ _ s))) (eq-eqb _ _ z)

pub main_words : {a : List ℕ} → MainHeader a → MainIn a
main_words {a} m =
    let h = head_words a m.header in
    record {
      class_1 = h.0;
      group_0 = h.1;
      subclass_0 = h.2;
      size_3307 = h.3;
      times = times_words a 0 m.times;
      frames = λ k l. frame_words a k (m.lines k l).0;
      values = λ k l. value_words a k (m.lines k l).1;
      least = m.least;
      most = m.most;
      sums = m.sums;
    }

pub words_main : {a : List ℕ} → MainIn a → MainHeader a
words_main {a} w = record {
  header = words_head a w.class_1 w.group_0 w.subclass_0 w.size_3307;
  times = words_times a 0 w.times;
  lines = λ k l. (words_frame a k (w.frames k l), words_value a k (w.values k l));
  least = w.least;
  most = w.most;
  sums = w.sums;
}

-- ---- A RECORD
pub record_words : {a : List ℕ} {p i : ℕ} → IsRecord a p i → RecordIn a p i
record_words {a} {p} {i} x =
    let c = class_words (class a i) x.known in
    record { low = c.0; high = c.1; grouped = group_words (group a i) x.grouped; ordered = x.ordered; least = x.least; ipr = x.ipr; times = times_words a i x.times }

pub words_record : {a : List ℕ} {p i : ℕ} → RecordIn a p i → IsRecord a p i
words_record {a} {p} {i} w =
    record { known = words_class (class a i) w.low w.high; grouped = words_group (group a i) w.grouped; ordered = w.ordered; least = w.least; ipr = w.ipr; times = words_times a i w.times }
