-- The rows' filling: what is known before each row. By the records that are left from the one at hand to the product's end. Assumes nothing.
use Prim.Native.Nat.{ℕ, ◌+◌, ◌-◌, ◌≤◌, ◌<◌}
use native.Mathlib.Decide.{ℕ_discrete}
use native.Mathlib.Omega.{arith}
use mathlib.Core.Path.{◌≡◌, refl, sym, ap, ◌∙◌}
use mathlib.Core.List.{List, [], ◌∷◌}
use lib.ListN.{length, get_or, set, length-set}
use Rattle.mphr.proofs.Export.{sized}
use Rattle.judge.specs.Table.{Site, class_at, size_at, Leads, here, on}
use Rattle.judge.specs.Extent.{Complete, Covered, ExtentIs}
use Rattle.std.specs.declared.option.Option.TheVariants.{Some, None}
use Rattle.std.specs.declared.result.Result.TheVariants.{Ok, Err}
use Rattle.std.specs.declared.option.Option.{Option}
use Rattle.std.specs.declared.result.Result.{Result}
use Rattle.calendar.specs.declared.Refusal.{Refusal}
use Rattle.judge.specs.Stretch.{over, further}
use Rattle.judge.specs.Stretch as J
use Rattle.judge.proofs.Covering.{complete_fine, whole_come}
use Rattle.finish.specs.Finish.{starts, put, Refuses, Accepts, FinishedIs, RowsBy, RefusesBy, VerdictIs, judged_as, refused_with}
use Rattle.finish.specs.Finish as F
use Rattle.finish.specs.Ahead.{Record}
use Rattle.finish.specs.Rows.{group_at, subclass_at, ordinal, row, rows_after, rows_of}
use Rattle.finish.specs.Slots.{slot_of, slot_at}
use Rattle.finish.specs.Fill.{Fillable, Filling, PutRow, PutsRow, Fills}
use Rattle.finish.proofs.SlotLaws.{slot_below, known_here, counted_next, few}
use Rattle.finish.proofs.AheadLaws.{ahead_step, ahead_stop, record_here, all_ahead}

pub starts_count : {a : List ℕ} {x y : Site} (l : Leads a x y) → x.count + length (starts l) ≡ y.count
starts_count here = omega arith
starts_count (on s l) = omega (arith, starts_count l)

pub fillable : {a : List ℕ} {rows : List (List ℕ)} {c : ℕ} → Complete a → (v : Covered a c) → c ≤ length rows → Fillable a rows (0 ∷ starts v.way)
fillable k v h = record {
  all = all_ahead k v;
  small = omega (arith, whole_come k, sized (complete_fine k));
  room = omega (arith, starts_count v.way, v.counted);
}

-- ---- a turn
pub filling_first : {a : List ℕ} {rows : List (List ℕ)} {l counts : List ℕ} → Fillable a rows l → length counts ≡ 32768 → ((j : ℕ) → j < 32768 → get_or counts j 0 ≡ 0) → Filling a rows l rows counts 0 0
filling_first {l = l} q e z = record {
  asked = q;
  before = [];
  rest = l;
  ahead = q.all;
  counted = record { long = e; each = λ c g s k. z (slot_of c g s) (slot_below k) };
  done = refl;
  low = omega arith;
  total = omega arith;
  size = refl;
  same = refl;
}

-- how many there were of a record's triple
told : {a : List ℕ} {rows₀ : List (List ℕ)} {l : List ℕ} {rows : List (List ℕ)} {counts : List ℕ} {k i : ℕ}
    → (f : Filling a rows₀ l rows counts k i) → Record a i → subclass_at a i < 256 → get_or counts (slot_at a i) 0 ≡ ordinal a f.before i
told {a} {i = i} f r b = f.counted.each (class_at a i) (group_at a i) (subclass_at a i) (known_here r b)

-- the record at hand
pub record_at : {a : List ℕ} {rows₀ : List (List ℕ)} {l : List ℕ} {rows : List (List ℕ)} {counts : List ℕ} {k i : ℕ}
    → Filling a rows₀ l rows counts k i → i < length a → Record a i
record_at f h = record_here f.ahead h

pub filling_here : {a : List ℕ} {rows₀ : List (List ℕ)} {l : List ℕ} {rows : List (List ℕ)} {counts : List ℕ} {k i z : ℕ}
    → Filling a rows₀ l rows counts k i → i < length a → z ≡ size_at a i → PutRow a rows counts k i z
filling_here {a} {i = i} f h e =
    let t = ahead_step f.ahead h in
    let r = t.here in
    record {
      here = r;
      sized = e;
      small = f.asked.small;
      place = omega (arith, f.total, ap length t.is, f.asked.room, f.size);
      long = f.counted.long;
      few = λ b. omega (arith, told f r b, few a (class_at a i) (group_at a i) (subclass_at a i) f.before, f.done, f.low, f.asked.small);
    }

pub filling_next : {a : List ℕ} {rows₀ : List (List ℕ)} {l : List ℕ} {rows : List (List ℕ)} {counts : List ℕ} {k i z : ℕ} {rows' : List (List ℕ)} {counts' : List ℕ}
    → Filling a rows₀ l rows counts k i → i < length a → z ≡ size_at a i → PutsRow a rows counts k i rows' counts' → Filling a rows₀ l rows' counts' (k + 1) (i + z)
filling_next {a} {rows₀} {l} {rows} {counts} {k} {i} f h d p =
    let t = ahead_step f.ahead h in
    let m = t.rest in
    let r = t.here in
    let e = told f r p.byte in
    let s : put k (rows_after a f.before (i ∷ m)) rows ≡ put 0 (rows_of a l) rows₀ =
    ap (λ (x : List ℕ). put k (rows_after a f.before x) rows) (sym t.is) ∙ f.same in
    rw (d, p.row, p.counter) (record {
      asked = f.asked;
      before = i ∷ f.before;
      rest = m;
      ahead = t.on;
      counted = counted_next f.counted r p.byte;
      done = omega (arith, f.done);
      low = omega (arith, f.low, r.least);
      total = omega (arith, f.total, ap length t.is);
      size = simp length-set f.size;
      same = ap (λ (n : ℕ). put (k + 1) (rows_after a (i ∷ f.before) m) (set rows k (row a i n))) e ∙ s;
    })

pub filling_last : {a : List ℕ} {rows₀ : List (List ℕ)} {l : List ℕ} {rows : List (List ℕ)} {counts : List ℕ} {k i : ℕ}
    → Filling a rows₀ l rows counts k i → length a ≤ i → (k ≡ length l) × (rows ≡ put 0 (rows_of a l) rows₀)
filling_last {a} {rows = rows} {k = k} f h =
    let e = ahead_stop f.ahead h in
    (omega (arith, f.total, ap length e), ap (λ (x : List ℕ). put k (rows_after a f.before x) rows) (sym e) ∙ f.same)

-- ---- a stretch of records of one size
-- from the record at byte i, with k rows in, to the one at byte e, with c rows in: z is the size of the first
pub record Alike (a : List ℕ) (rows₁ : List (List ℕ)) (counts₁ : List ℕ) (k i z : ℕ) (rows : List (List ℕ)) (counts : List ℕ) (c e : ℕ) : Type 0 where
  pub kept : (rows₀ : List (List ℕ)) (l : List ℕ) → Filling a rows₀ l rows₁ counts₁ k i → Filling a rows₀ l rows counts c e
  pub from : i ≤ e
  pub begun : e ≡ i → z ≡ size_at a i

-- where another size stands the first record is in
pub moved_on : {a : List ℕ} {rows₁ : List (List ℕ)} {counts₁ : List ℕ} {k i z : ℕ} {rows : List (List ℕ)} {counts : List ℕ} {c e : ℕ}
    → Alike a rows₁ counts₁ k i z rows counts c e → (size_at a e ≡ z → ⊥) → i < e
moved_on {a} {i = i} {e = e} v n = go (ℕ_discrete e i)
  where
    go : Dec (e ≡ i) → i < e
    go (yes q) = absurd (n (ap (size_at a) q ∙ sym (v.begun q)))
    go (no q) = omega (arith, v.from, q)

-- ---- a stretch whose sizes are known
pub even_step : {a : List ℕ} {z i j : ℕ} → J.Even a z i j → i < j → (z ≡ size_at a i) × J.Even a z (i + z) j
even_step over h = absurd (omega arith)
even_step (further e m) h = (sym e, m)

-- from the record at byte i, with k rows in, to the one at byte e, with c rows in; up to byte `end` the sizes are z
pub record Evenly (a : List ℕ) (rows₁ : List (List ℕ)) (counts₁ : List ℕ) (k i z end : ℕ) (rows : List (List ℕ)) (counts : List ℕ) (c e : ℕ) : Type 0 where
  pub kept : (rows₀ : List (List ℕ)) (l : List ℕ) → Filling a rows₀ l rows₁ counts₁ k i → Filling a rows₀ l rows counts c e
  pub stop : ℕ
  pub even : J.Even a z e stop
  pub within : end ≤ stop

-- the measure falls
pub less : {n i z : ℕ} → i < n → 1 ≤ z → n - (i + z) < n - i
less h l = omega arith

-- ---- all of it
pub filled : {a : List ℕ} {rows rows' : List (List ℕ)} {c r : ℕ} → Complete a → Covered a c → c ≤ length rows → Fills a rows r rows' → Accepts a rows r rows'
filled k v h f =
    let g = f.filled (0 ∷ starts v.way) (fillable k v h) in
    let e = starts_count v.way in
    record {
      complete = k;
      filled = record {
        covered = record { last = v.last; way = v.way; ends = v.ends; counted = omega (arith, g.0, e) };
        fits = omega (arith, g.0, e, v.counted);
        index = g.1;
      };
    }

pub refused_with_lem : (a : List ℕ) (rows : List (List ℕ)) {n p : ℕ} {r : Result ℕ Refusal} → r ≡ refused_with n p → Refuses a (length rows) n p → FinishedIs a rows r rows
refused_with_lem a rows e q = rw e (q, refl)

pub refused_by : (p : List (List ℕ)) (a : List ℕ) (rows : List (List ℕ)) {n q : ℕ} {r : Result ℕ Refusal} → r ≡ refused_with n q → RefusesBy p a (length rows) n q → RowsBy p a rows r rows
refused_by p a rows e q = rw e (q, refl)

-- ---- the verdict, by the arrival judge's answer
pub judged_is : (a : List ℕ) (x : Result (Option ℕ) Refusal) (r : Result ℕ Refusal) → r ≡ judged_as x (length a) → ExtentIs a x → VerdictIs a r
judged_is a (Err q) r e f = rw e (F.faulty f)
judged_is a (Ok None) r e f = rw e (F.short f.0 f.1)
judged_is a (Ok (Some c)) r e f = rw e f
