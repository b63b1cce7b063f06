-- THE JOIN OF A PASS AND REQUEST SEVEN'S: products that the first takes for alike and in time are so for the second; of right times, each asks how far a stop
-- lies after a start on the line of milliseconds. By cases on the times, and by induction on the records. Assumes nothing.
use Prim.Native.Nat.{ℕ, ◌-◌, ◌≤◌, ◌<◌}
use native.Mathlib.Decide.{dec_lt}
use native.Mathlib.Omega.{arith}
use mathlib.Core.Path.{◌≡◌, refl, sym, ap, ◌∙◌}
use mathlib.Core.Bool.{Bool, true, false, cond, not, ◌&&◌}
use mathlib.Core.List.Memᴰ.{head as top}
use mathlib.Core.List.Memᴰ.{tail as pop}
use mathlib.Core.List.{List, [], ◌∷◌, Memᴰ as In}
use borrow.Author.Tests.{le-ltb, lt-ltb, ltb-false, leb-true}
use lib.Dec.{ltb}
use Rattle.calendar.specs.Said.{Said, answer, refusal}
use Rattle.meter.specs.Time.{last_milli, is_milli, is_time, time_at, order_of, compared}
use Rattle.std.specs.declared.option.Option.TheVariants.{Some, None}
use Rattle.std.specs.declared.cmp.Ordering.TheVariants.{Less, Equal, Greater}
use Rattle.std.specs.declared.option.Option.{Option}
use Rattle.std.specs.declared.cmp.Ordering.{Ordering}
use Rattle.meter.specs.declared.time.Time.{Time}
use Rattle.meter.specs.Instant as T
use Rattle.record.specs.Times.{is_after, timed_at}
use Rattle.record.proofs.FieldLaws.{both}
use Rattle.moment.specs.Moment.{on_line, overlap_between}
use Rattle.moment.proofs.MomentLaws.{line_order}
use Rattle.parts.specs.Parts.{Own, Built}
use Rattle.parts.specs.Only.{only, is_mdr}
use Rattle.parts.specs.Join.{identical, granules, seen, Like}
use Rattle.parts.specs.Pass.{Alike, last_of, first_of, last_stop_from, first_start_from, last_defined_stop, first_defined_start, is_late, InTime}
use Rattle.parts.proofs.OnlyLaws.{only_in}

-- ---- what is identical is so without the times
pub like_granules : {rs ss : List (List ℕ)} → Like identical rs ss → Like granules rs ss
like_granules l = record { sphr = ap (seen granules) l.sphr; global = ap (seen granules) l.global }

pub alike_granules : {m n : List ℕ} {rs ss : List (List ℕ)} → Alike identical m n rs ss → Alike granules m n rs ss
alike_granules a = record { fields = a.fields; records = like_granules a.records }

-- ---- HOW FAR A STOP LIES AFTER A START: more than this many milliseconds is too late
abbrev pub allowed : Bool → ℕ
allowed true = 0
allowed false = 1

after_of : (x y : ℕ) → is_after (answer (cond (ltb x y) Less (cond (ltb y x) Greater Equal))) ≡ ltb 0 (x - y)
after_of x y = go (dec_lt y x)
  where
    either : (b : Bool) → is_after (answer (cond b Less Equal)) ≡ false
    either true = refl
    either false = refl

    go : Dec (y < x) → is_after (answer (cond (ltb x y) Less (cond (ltb y x) Greater Equal))) ≡ ltb 0 (x - y)
    go (yes h) = rw (le-ltb x y (omega arith), lt-ltb y x h, lt-ltb 0 (x - y) (omega arith)) refl
    go (no h) = rw (le-ltb y x (omega (arith, h)), le-ltb 0 (x - y) (omega (arith, h))) (either (ltb x y))

after_line : (d m e n : ℕ) → is_milli d m ≡ true → is_milli e n ≡ true → is_after (compared (T.At d m) (T.At e n)) ≡ ltb 0 (overlap_between (T.At d m) (T.At e n))
after_line d m e n p q =
    ap (λ (b : Bool). is_after (compares b)) (ap (λ (b : Bool). b && is_milli e n) p ∙ q)
    ∙ ap (λ (o : Ordering). is_after (answer o)) (line_order d m e n (leb-true m (last_milli d) p) (leb-true n (last_milli e) q))
    ∙ after_of (on_line d m) (on_line e n)
  where
    compares : Bool → Said Ordering
    compares b = cond b (answer (order_of d m e n)) (refusal 21 0)

pub late_line : (i : Bool) (t u : Option Time) → is_time t ≡ true → is_time u ≡ true → is_late i t u ≡ ltb (allowed i) (overlap_between t u)
late_line false t u p q = refl
late_line true None u p q = refl
late_line true (Some t) None p q = refl
late_line true (Some t) (Some u) p q = after_line t.day t.milli u.day u.milli p q

-- ---- the times of records are right
own_times : (r : List ℕ) → Own r → (is_time (time_at r 8) ≡ true) × (is_time (time_at r 14) ≡ true)
unfolding timed_at
own_times r o =
    both (is_time (time_at r 8)) (is_time (time_at r 14))
    (both (is_time (time_at r 8) && is_time (time_at r 14)) (not (is_after (compared (time_at r 8) (time_at r 14)))) o.times).0

last_time : (t u : Option Time) → is_time t ≡ true → is_time u ≡ true → is_time (last_of t u) ≡ true
last_time t None p q = p
last_time t (Some u) p q = q

first_time : (t u : Option Time) → is_time t ≡ true → is_time u ≡ true → is_time (first_of t u) ≡ true
first_time None u p q = q
first_time (Some t) u p q = p

stop_time : (t : Option Time) (rs : List (List ℕ)) → is_time t ≡ true → ((r : List ℕ) → In r rs → Own r) → is_time (last_stop_from t rs) ≡ true
stop_time t [] p f = p
stop_time t (r ∷ rs) p f = stop_time (last_of t (time_at r 14)) rs (last_time t (time_at r 14) p (own_times r (f r (top refl))).1) (λ x n. f x (pop n))

start_time : (t : Option Time) (rs : List (List ℕ)) → is_time t ≡ true → ((r : List ℕ) → In r rs → Own r) → is_time (first_start_from t rs) ≡ true
start_time t [] p f = p
start_time t (r ∷ rs) p f = start_time (first_of t (time_at r 8)) rs (first_time t (time_at r 8) p (own_times r (f r (top refl))).0) (λ x n. f x (pop n))

-- ---- OF TWO PRODUCTS, by their parts
module _ {m n : List ℕ} {rs ss : List (List ℕ)} (b : Built m rs) (d : Built n ss) where
  mdr_own : {k : List ℕ} {us : List (List ℕ)} → Built k us → (r : List ℕ) → In r (only is_mdr us) → Own r
  mdr_own {us = us} w r i = w.tiles.own r (only_in is_mdr r us i).0

  -- in time is: the last defined stop lies after the first defined start by no more milliseconds than are allowed
  pub in_time_line : (i : Bool) → is_late i (last_defined_stop rs) (first_defined_start ss) ≡ ltb (allowed i) (overlap_between (last_defined_stop rs) (first_defined_start ss))
  in_time_line i = late_line i (last_defined_stop rs) (first_defined_start ss) (stop_time None (only is_mdr rs) refl (mdr_own b)) (start_time None (only is_mdr ss) refl (mdr_own d))

  pub in_time_granules : InTime identical rs ss → InTime granules rs ss
  in_time_granules h =
      let o = overlap_between (last_defined_stop rs) (first_defined_start ss) in
      let z : o ≤ 0 = ltb-false 0 o (sym (in_time_line identical) ∙ h) in
      le-ltb 1 o (omega (arith, z))
