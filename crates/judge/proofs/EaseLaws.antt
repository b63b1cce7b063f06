-- What the buffer says of a record, whatever its room: each pointer at or into the record by its own entry. Assumes nothing.
use Rattle.std.proofs.Common.{◌≡◌, sym, ℕ, ◌+◌, ◌*◌, ◌<◌, ◌≤◌, List, length, take, drop, ◌++◌, get_or, subst, refl, ◌∙◌, zero-le, le_refl, arith, length-append, length-drop, length-take-le, get_or-take}
use Rattle.std.specs.List.{Contains}
use Rattle.std.specs.List.Sorted.{IsPermutation, IsNonDecreasing}
use Rattle.std.proofs.lemmas.List.{get_or_default, get_or_append_left, take-append-drop}
use Rattle.std.proofs.lemmas.List.Sorted.{Contains-permutation, length_permutation}
use Rattle.std.proofs.lemmas.List.Elements.{Contains-get_or}
use Rattle.std.proofs.Math.Seq.{take-append_seam}
use native.Mathlib.Decide.{dec_lt}
use Rattle.judge.specs.declared.pending.Hold.{Hold}
use Rattle.judge.specs.declared.pointers.Pointers.{Pointers}
use Rattle.judge.specs.Table.{Site, size_at, kind_at, aim_at, offset_at}
use Rattle.judge.specs.Step.{any, Points, Quiet, Calm, Kept}
use Rattle.judge.specs.Pending.{Sorted, key_of, Held, Holds, GatheredIs, nothing_held, no_hold, ReadyIs, SkippedIs, HoldIs, EasedIs}
use Rattle.judge.proofs.ScanLaws.{bounded}

-- the same pointers, from a later byte on
pub later : {a : List ℕ} {i i' : ℕ} {h : List ℕ} {k : Hold} → i ≤ i' → HoldIs a i h k → HoldIs a i' h k
later l k = record { begun = k.begun; few = k.few; sorted = k.sorted; all = λ p w. k.all p (bounded w w.before (omega (arith, w.above)) w.below) }

sorted_none : {h : List ℕ} → Sorted h 0
sorted_none = record { rise = λ i j l u. absurd (omega arith) }

pub none_held : {a : List ℕ} {i : ℕ} {h : List ℕ} → HoldIs a i h no_hold
none_held = record { begun = le_refl _; few = zero-le; sorted = sorted_none; all = λ p w. absurd (omega (arith, w.below)) }

-- ---- the buffer is ready
pub ready_none : {a h : List ℕ} {room e i x : ℕ} {r : Hold} → r ≡ nothing_held i e → length h ≡ room → ReadyIs a h room e i x r
ready_none f s = rw f (record { same = s; begun = le_refl _; few = zero-le; end_is = refl; sorted = sorted_none; all = λ p w _. absurd (omega (arith, w.above, w.below)) })

pub ready_still : {a h : List ℕ} {e i x : ℕ} {r : Hold} → HoldIs a i h r → r.end ≡ e → ReadyIs a h (length h) e i x r
ready_still b f = record { same = refl; begun = b.begun; few = b.few; end_is = f; sorted = b.sorted; all = λ p w _. (rw f at b.all) p w }

-- the first n of all, where they were put in order by themselves
pub part_in_order : {n : ℕ} (ys rest : List ℕ) → length ys ≡ n → IsNonDecreasing ys → IsNonDecreasing (take n (ys ++ rest))
part_in_order {n} ys rest s o = subst IsNonDecreasing (sym (subst (λ k. take k (ys ++ rest) ≡ ys) s (take-append_seam ys rest))) o

-- what was gathered is put in order
module _ (h ys : List ℕ) (n : ℕ) (fits : n ≤ length h) (moved : IsPermutation (take n h) ys) where
  as_many : length ys ≡ n
  as_many = length_permutation _ _ moved ∙ length-take-le n h fits

  -- each of the first n is among them still
  among : (k : ℕ) → k < n → (j : ℕ) × (j < n) × (get_or (ys ++ drop n h) j 0 ≡ get_or h k 0)
  among k u =
      let x = get_or h k 0 in
      let c : Contains ys x = Contains-permutation _ _ _ moved (subst (Contains (take n h)) (get_or-take n h k 0 u) (Contains-get_or (take n h) k 0 (omega (arith, length-take-le n h fits)))) in
      (c.0, omega (arith, c.1, as_many), get_or_append_left ys (drop n h) 0 c.0 c.1 ∙ get_or_default ys c.0 0 x c.1 ∙ c.2)

  in_order : IsNonDecreasing ys → Sorted (ys ++ drop n h) n
  in_order o = record { rise = λ i j l u. rw (get_or_append_left ys (drop n h) 0 i (omega (arith, as_many)), get_or_append_left ys (drop n h) 0 j (omega (arith, as_many))) (o i j 0 l (omega (arith, as_many))) }

filled_with : {a h ys : List ℕ} {room e i x n edge : ℕ} → GatheredIs a h room e i edge x n → n ≤ length h → IsPermutation (take n h) ys → IsNonDecreasing ys → ReadyIs a (ys ++ drop n h) room e i x (record { next = 0; count = n; edge = edge; end = e; due = i })
filled_with {a} {h} {ys} {n = n} g l m o =
    record { same = omega (arith, length-append ys (drop n h), length-drop n h, as_many h ys n l m, g.same); begun = zero-le; few = omega (arith, g.same); end_is = refl; sorted = in_order h ys n l m o; all = λ p w u. still p (g.all (omega (arith, g.same)) p w u) }
  where
    still : (p : Site) → Held a h 0 n p.at → Held a (ys ++ drop n h) 0 n p.at
    still p c =
        let q = among h ys n l m c.at c.within in
        record { at = q.0; after = zero-le; within = q.1; entry = record { value = q.2 ∙ c.entry.value; small = c.entry.small } }

pub ready_filled : {a h h' : List ℕ} {room e i x n edge : ℕ} → GatheredIs a h room e i edge x n → n ≤ length h → IsPermutation (take n h) (take n h') → IsNonDecreasing (take n h') → drop n h' ≡ drop n h → ReadyIs a h' room e i x (record { next = 0; count = n; edge = edge; end = e; due = i })
ready_filled {a} {h} {h'} {room} {e} {i} {x} {n} {edge} g l m o r =
    let put : take n h' ++ drop n h ≡ h' = subst (λ d. take n h' ++ d ≡ h') r (take-append-drop n h') in
    subst (λ w. ReadyIs a w room e i x (record { next = 0; count = n; edge = edge; end = e; due = i })) put (filled_with g l m o)

-- ---- what is eased
module _ {a h : List ℕ} {room e i k x j due : ℕ} {v : Hold} (f : ReadyIs a h room e i x v) (s : SkippedIs h v.next v.count x j) (x-is : x ≡ key_of i k) (k-is : k ≡ kind_at a i) (small : k < any) (inside : due ≤ v.edge) (soonest : j < v.count → due * any ≤ get_or h j 0) where
  -- a pointer further on is held
  further : (p : Site) → Points a e (i + 1) v.edge any p → Held a h v.next v.count p.at
  further p w = f.all p (bounded w w.before (omega (arith, w.above)) w.below) (λ g. omega (arith, w.above, g, x-is))

  -- and so is one at the record that is of another kind
  own : i < v.edge → (p : Site) → Points a e i (i + 1) k p → Held a h v.next v.count p.at
  own l p w = f.all p (bounded w w.before w.above (omega (arith, w.below))) (λ g. w.unlike small (omega (arith, w.above, w.below, g, x-is)))

  -- a held pointer that went names the record
  names : (p : Site) (c : Held a h v.next v.count p.at) → c.at < j → (offset_at a p.at ≡ i) × (aim_at a p.at ≡ k)
  names p c l = let y = s.alike c.at c.after l in (omega (arith, y, x-is, c.entry.value, c.entry.small), omega (arith, y, x-is, c.entry.value, c.entry.small))

  -- and one that did not is not before `due`
  beyond : (p : Site) (c : Held a h v.next v.count p.at) → j ≤ c.at → due ≤ offset_at a p.at
  beyond p c l = omega (arith, soonest (omega (arith, c.within)), f.sorted.rise j c.at l c.within, c.entry.value, c.entry.small)

  left : i < i + size_at a i → Holds a h j v.count e (i + size_at a i) v.edge
  left z p w = by (dec_lt c.at j)
    where
      c : Held a h v.next v.count p.at
      c = further p (bounded w w.before (omega (arith, w.above)) w.below)

      by : Dec (c.at < j) → Held a h j v.count p.at
      by (yes l) = absurd (omega (arith, (names p c l).0, w.above))
      by (no l) = record { at = c.at; after = omega (arith, l); within = c.within; entry = c.entry }

  quiet_inside : Quiet a e (i + 1) due any
  quiet_inside p w = by (dec_lt c.at j)
    where
      c : Held a h v.next v.count p.at
      c = further p (bounded w w.before w.above (omega (arith, w.below)))

      by : Dec (c.at < j) → ⊥
      by (yes l) = omega (arith, (names p c l).0, w.above)
      by (no l) = omega (arith, beyond p c (omega (arith, l)), w.below)

  quiet_own : i < due → Quiet a e i (i + 1) (kind_at a i)
  quiet_own z p w = by (dec_lt c.at j)
    where
      c : Held a h v.next v.count p.at
      c = own (omega arith) p (rw k-is w)

      by : Dec (c.at < j) → ⊥
      by (yes l) = w.unlike (omega (arith, k-is)) ((names p c l).1 ∙ k-is)
      by (no l) = omega (arith, beyond p c (omega (arith, l)), w.below)

  pub eased_ready : i < i + size_at a i → EasedIs a room e i h (record { next = j; count = v.count; edge = v.edge; end = v.end; due = due })
  eased_ready z = record {
    same = f.same;
    hold = record { begun = s.high; few = omega (arith, f.few, f.same); sorted = f.sorted; all = rw f.end_is (left z) };
    calm = record { inside = quiet_inside; other = quiet_own };
  }

abbrev with_due : Hold → ℕ → Hold
with_due k due = record { next = k.next; count = k.count; edge = k.edge; end = k.end; due = due }

pub eased_same : {a : List ℕ} {e i due room : ℕ} {h : List ℕ} {k : Hold} → length h ≡ room → HoldIs a i h k → Calm a e i due → EasedIs a room e i h (with_due k due)
eased_same {a} {e} {i} l k c = let z = later {i' = i + size_at a i} (omega arith) k in record { same = l; hold = record { begun = z.begun; few = z.few; sorted = z.sorted; all = z.all }; calm = c }

-- the pointers, with another byte due
abbrev pub due_at : Pointers → ℕ → Pointers
due_at w d = record { end = w.end; due = d; from = w.from; last = w.last; rising = w.rising }

pub kept_eased : {a : List ℕ} {i due : ℕ} {w : Pointers} → Kept a i w → Calm a w.end i due → Kept a i (due_at w due)
kept_eased k c = record { within = k.within; ends = k.ends; cursor = k.cursor; calm = c; order = k.order }
