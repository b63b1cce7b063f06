-- CUTS BY WINDOWS THAT PART A WINDOW (02, request Three): each MDR whose start lies in the whole is chosen by just one of them, and no other is chosen; so no MDR
-- is in two of the cuts or in none. A time is up to a window's end or from the next window's start on. Assumes nothing.
use Prim.Native.Nat.{ℕ, suc, ◌+◌, ◌≤◌, ◌<◌}
use native.Mathlib.Decide.{dec_lt, ℕ_discrete}
use native.Mathlib.Omega.{arith}
use mathlib.Core.Path.{◌≡◌, refl, sym, ap, ◌∙◌}
use mathlib.Core.Bool.{Bool, true, false, true≢false, cond, ◌&&◌}
use mathlib.Core.List.Memᴰ.{head as top}
use mathlib.Core.List.Memᴰ.{tail as pop}
use mathlib.Core.List.{List, [], ◌∷◌, Memᴰ as In}
use borrow.Author.Tests.{leb-true, le-leb}
use lib.ListN.{length}
use Rattle.meter.specs.Time.{last_milli, is_milli, is_time, time_at, compared}
use Rattle.std.specs.declared.option.Option.TheVariants.{Some, None}
use Rattle.std.specs.declared.option.Option.{Option}
use Rattle.meter.specs.declared.time.Time.{Time}
use Rattle.meter.specs.Instant as T
use Rattle.demands.specs.Product.{Meets}
use Rattle.parts.specs.Parts.{records_at}
use Rattle.parts.specs.Only.{only, is_mdr}
use Rattle.parts.specs.Cut.{is_up_to, Window, window, within, is_chosen}
use Rattle.parts.specs.Windows.{Next, in_day, next_day, Parted, last, more, holding, choosing, chosen_in, line_start, line_end}
use Rattle.parts.proofs.Built.{meets_built}
use Rattle.meter.specs.Integer.{Bytes}
use Rattle.parts.proofs.CutHeaderLaws.{Valid, own_times, time_valid, parts_byte}
use Rattle.parts.proofs.TimeOrder.{not_after, up_to, up_to_on}

-- ---- a time is up to one instant, or from the next on
module _ {u v : Option Time} (n : Next u v) (d m : ℕ) (ok : is_milli d m ≡ true) where
  -- not both
  apart : is_up_to (compared (T.At d m) u) ≡ true → is_up_to (compared v (T.At d m)) ≡ true → ⊥
  apart = go n
    where
      go : {u v : Option Time} → Next u v → is_up_to (compared (T.At d m) u) ≡ true → is_up_to (compared v (T.At d m)) ≡ true → ⊥
      go (in_day {d = e} {m = k} h) p q =
          let x = not_after d m e k p in
          let y = not_after e (suc k) d m q in
          let z : d ≡ e = omega (arith, x.days, y.days) in
          omega (arith, x.millis z, y.millis (sym z))
      go (next_day {d = e} {m = k} h) p q = omega (arith, (not_after d m e k p).days, (not_after (suc e) 0 d m q).days)

  -- and one of them
  after : is_up_to (compared (T.At d m) u) ≡ false → is_up_to (compared u u) ≡ true → is_up_to (compared v (T.At d m)) ≡ true
  after = go n
    where
      low : (e k : ℕ) → is_up_to (compared (T.At d m) (T.At e k)) ≡ false → is_milli e k ≡ true → (d < e → ⊥) × (d ≡ e → k < m)
      low e k f r = (λ l. true≢false (sym (up_to d m e k record { first = ok; second = r; days = omega arith; millis = λ z. absurd (omega arith) }) ∙ f), λ z. less z (dec_lt k m))
        where
          less : d ≡ e → Dec (k < m) → k < m
          less z (yes h) = h
          less z (no h) = absurd (true≢false (sym (up_to d m e k record { first = ok; second = r; days = omega arith; millis = λ _. omega (arith, h) }) ∙ f))

      go : {u v : Option Time} → Next u v → is_up_to (compared (T.At d m) u) ≡ false → is_up_to (compared u u) ≡ true → is_up_to (compared v (T.At d m)) ≡ true
      go (in_day {d = e} {m = k} h) f s =
          let l = low e k f (not_after e k e k s).first in
          up_to e (suc k) d m record { first = le-leb (suc k) (last_milli e) (omega arith); second = ok; days = days l.0 (dec_lt d e); millis = λ z. omega (arith, l.1 (sym z)) }
        where
          days : (d < e → ⊥) → Dec (d < e) → e ≤ d
          days n (yes h) = absurd (n h)
          days n (no h) = omega (arith, h)
      go (next_day {d = e} {m = k} h) f s =
          let l = low e k f (not_after e k e k s).first in
          up_to (suc e) 0 d m record { first = le-leb 0 (last_milli (suc e)) (omega arith); second = ok; days = days l (dec_lt d e) (ℕ_discrete d e); millis = λ z. omega arith }
        where
          days : (d < e → ⊥) × (d ≡ e → k < m) → Dec (d < e) → Dec (d ≡ e) → suc e ≤ d
          days l (yes q) _ = absurd (l.0 q)
          days l (no q) (yes z) = absurd (omega (arith, l.1 z, h, leb-true m (last_milli d) ok, ap last_milli z))
          days l (no q) (no z) = omega (arith, q, z)

-- the next is not before
next_up : {u v : Option Time} → Next u v → is_up_to (compared u u) ≡ true → is_up_to (compared u v) ≡ true
next_up (in_day {d = d} {m = m} h) s = up_to d m d (suc m) record { first = (not_after d m d m s).first; second = le-leb (suc m) (last_milli d) (omega arith); days = omega arith; millis = λ z. omega arith }
next_up (next_day {d = d} {m = m} h) s = up_to d m (suc d) 0 record { first = (not_after d m d m s).first; second = le-leb 0 (last_milli (suc d)) (omega arith); days = omega arith; millis = λ z. absurd (omega arith) }

-- what is up to something is a time
self_left : (t u : Option Time) → is_up_to (compared t u) ≡ true → is_up_to (compared t t) ≡ true
self_left None u e = absurd (true≢false (sym e))
self_left (Some t) None e = absurd (true≢false (sym e))
self_left (Some t) (Some u) e = up_to t.day t.milli t.day t.milli record { first = (not_after t.day t.milli u.day u.milli e).first; second = (not_after t.day t.milli u.day u.milli e).first; days = omega arith; millis = λ z. omega arith }

self_right : (t u : Option Time) → is_up_to (compared t u) ≡ true → is_up_to (compared u u) ≡ true
self_right None u e = absurd (true≢false (sym e))
self_right (Some t) None e = absurd (true≢false (sym e))
self_right (Some t) (Some u) e = up_to u.day u.milli u.day u.milli record { first = (not_after t.day t.milli u.day u.milli e).second; second = (not_after t.day t.milli u.day u.milli e).second; days = omega arith; millis = λ z. omega arith }

-- four tests: a time in the one window, or in the other, is in both together, once
once : (a b c d : Bool) → (b ≡ true → c ≡ false) → (b ≡ false → c ≡ true) → (b ≡ true → d ≡ true) → (c ≡ true → a ≡ true) → cond (a && b) 1 0 + cond (c && d) 1 0 ≡ cond (a && d) 1 0
once a true true d p q r s = absurd (true≢false (p refl))
once true true false true p q r s = refl
once false true false true p q r s = refl
once a true false false p q r s = absurd (true≢false (sym (r refl)))
once true false true true p q r s = refl
once true false true false p q r s = refl
once false false true d p q r s = absurd (true≢false (sym (s refl)))
once a false false d p q r s = absurd (true≢false (sym (q refl)))

parted_window : {t x : Option Time} {ws : List Window} → Parted t x ws → is_up_to (compared t x) ≡ true
parted_window (last e) = e
parted_window (more {t = t} {u = u} {v = v} {x = x} e n p) = up_to_on t u x e (up_to_on u v x (next_up n (self_right t u e)) (parted_window p))

two_windows : (t u v x : Option Time) → is_up_to (compared t u) ≡ true → Next u v → is_up_to (compared v x) ≡ true → (y : Option Time) → is_time y ≡ true → cond (within (window t u) y) 1 0 + cond (within (window v x) y) 1 0 ≡ cond (within (window t x) y) 1 0
two_windows t u v x e n f None ok = rw (none t, none v)
  where
    none : (z : Option Time) → is_up_to (compared z None) ≡ false
    none None = refl
    none (Some t) = refl
two_windows t u v x e n f (Some w) ok =
    let y = T.At w.day w.milli in
    let s = self_right t u e in
    let uv = next_up n s in
    once (is_up_to (compared t y)) (is_up_to (compared y u)) (is_up_to (compared v y)) (is_up_to (compared y x))
    (λ p. no (is_up_to (compared v y)) (λ q. apart n w.day w.milli ok p q))
    (λ p. after n w.day w.milli ok p s)
    (λ p. up_to_on y u x p (up_to_on u v x uv f))
    (λ p. up_to_on t v y (up_to_on t u v e uv) p)
  where
    no : (b : Bool) → (b ≡ true → ⊥) → b ≡ false
    no true h = absurd (h refl)
    no false h = refl

-- ---- THE LAWS
-- a time lies in one of the windows, and in no second, just where it lies in the whole
pub held_once : {t x : Option Time} {ws : List Window} → Parted t x ws → (y : Option Time) → is_time y ≡ true → holding ws y ≡ cond (within (window t x) y) 1 0
held_once (last {t = t} {x = x} e) y ok = omega arith
held_once (more {t = t} {u = u} {v = v} {x = x} e n p) y ok = omega (arith, held_once p y ok, two_windows t u v x e n (parted_window p) y ok)

-- 1 where the test is passed
as_one : Bool → ℕ
as_one b = cond b 1 0

module _ (r : List ℕ) where
  one_by_one : (ws : List Window) → is_mdr r ≡ true → choosing ws r ≡ holding ws (time_at r 8)
  unfolding is_chosen as_one
  one_by_one [] e = refl
  one_by_one (w ∷ ws) e = let h : cond (is_chosen w r) 1 0 ≡ as_one (within w (time_at r 8)) = rw e in omega (arith, h, one_by_one ws e)

  by_none : (ws : List Window) → is_mdr r ≡ false → choosing ws r ≡ 0
  unfolding is_chosen as_one
  by_none [] e = refl
  by_none (w ∷ ws) e = let h : cond (is_chosen w r) 1 0 ≡ as_one false = rw e in omega (arith, h, by_none ws e)

-- and so is an MDR chosen by one of them, and by no second, just where the whole chooses it
pub chosen_once : {t x : Option Time} {ws : List Window} → Parted t x ws → (r : List ℕ) → is_time (time_at r 8) ≡ true → choosing ws r ≡ cond (is_chosen (window t x) r) 1 0
unfolding is_chosen
chosen_once {t} {x} {ws} p r ok = go (is_mdr r) refl
  where
    go : (b : Bool) → is_mdr r ≡ b → choosing ws r ≡ cond (b && within (window t x) (time_at r 8)) 1 0
    go true e = one_by_one r ws e ∙ held_once p (time_at r 8) ok
    go false e = by_none r ws e

-- how many are chosen in all
one_counted : (ws : List Window) (r : List ℕ) (rs : List (List ℕ)) → chosen_in ws (r ∷ rs) ≡ choosing ws r + chosen_in ws rs
one_counted [] r rs = omega arith
one_counted (w ∷ ws) r rs = omega (arith, one_counted ws r rs, one (is_chosen w r))
  where
    one : (b : Bool) → length (cond b (r ∷ only (is_chosen w) rs) (only (is_chosen w) rs)) ≡ cond b 1 0 + length (only (is_chosen w) rs)
    one true = omega arith
    one false = omega arith

none_in : (ws : List Window) → chosen_in ws [] ≡ 0
none_in [] = refl
none_in (w ∷ ws) = omega (arith, none_in ws)

pub as_many : {t x : Option Time} {ws : List Window} → Parted t x ws → (rs : List (List ℕ)) → ((r : List ℕ) → In r rs → is_time (time_at r 8) ≡ true) → chosen_in ws rs ≡ length (only (is_chosen (window t x)) rs)
as_many {ws = ws} p [] f = none_in ws
as_many {t} {x} {ws} p (r ∷ rs) f = omega (arith, one_counted ws r rs, chosen_once p r (f r (top refl)), as_many p rs (λ y n. f y (pop n)), one (is_chosen (window t x) r))
  where
    one : (b : Bool) → length (cond b (r ∷ only (is_chosen (window t x)) rs) (only (is_chosen (window t x)) rs)) ≡ cond b 1 0 + length (only (is_chosen (window t x)) rs)
    one true = omega arith
    one false = omega arith

-- ---- OF A PRODUCT a, cut by each of the windows: its MDRs that the whole window chooses are each in one of the cuts and in no second, and no other is in any;
-- the cuts have as many together as the cut by the whole (what a cut has is told by `town-mdrs`)
module _ {a : List ℕ} (m : Meets a) {t x : Option Time} {ws : List Window} (p : Parted t x ws) where
  starts_stand : (r : List ℕ) → In r (records_at a m.list) → is_time (time_at r 8) ≡ true
  starts_stand r n = (own_times r ((meets_built a m).tiles.own r n).times).0

  pub cuts_share : (r : List ℕ) → In r (records_at a m.list) → choosing ws r ≡ cond (is_chosen (window t x) r) 1 0
  cuts_share r n = chosen_once p r (starts_stand r n)

  pub cuts_in_all : chosen_in ws (records_at a m.list) ≡ length (only (is_chosen (window t x)) (records_at a m.list))
  cuts_in_all = as_many p (records_at a m.list) starts_stand

-- and where the windows part the whole line of times, each MDR with a defined start is in just one of the cuts
line_holds : (y : Option Time) → Valid y → is_time y ≡ true → (y ≡ None → ⊥) → within (window line_start line_end) y ≡ true
line_holds None v ok n = absurd (n refl)
line_holds (Some t) (h, l) ok n =
    let x = up_to 0 0 t.day t.milli record { first = le-leb 0 (last_milli 0) (omega arith); second = ok; days = omega arith; millis = λ z. omega arith } in
    let y = up_to t.day t.milli 65535 (last_milli 65535) record { first = ok; second = le-leb (last_milli 65535) (last_milli 65535) (omega arith); days = omega arith; millis = λ z. omega (arith, ap last_milli z) } in
    rw (x, y)

pub each_once :
    {a : List ℕ} → Bytes a → (m : Meets a) {ws : List Window} → Parted line_start line_end ws → (r : List ℕ) → In r (records_at a m.list) → is_mdr r ≡ true → (time_at r 8 ≡ None → ⊥)
    → choosing ws r ≡ 1
unfolding is_chosen
each_once {a} byte m p r n e d =
    let ok = starts_stand m p r n in
    let h = line_holds (time_at r 8) (time_valid r 8 (parts_byte a byte m.list r n) ok) ok d in
    let c : is_chosen (window line_start line_end) r ≡ true = rw (e, h) in
    cuts_share m p r n ∙ ap {B = ℕ} (λ (b : Bool). cond b 1 0) c
