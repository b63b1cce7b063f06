-- THE LINE OF MILLISECONDS: how many extra seconds there are before a day, by a test for each of request Two's days; the line has no hole and no millisecond
-- twice, so its order is that of times; and the times of 48 bits stand below 2 ^ 43 on it. By induction on the day. Assumes nothing.
use Prim.Native.Nat.{ℕ, zero, suc, ◌+◌, ◌-◌, ◌*◌, ◌/◌, ◌%◌, ◌≤◌, ◌<◌, max}
use native.Mathlib.Decide.{ℕ_discrete, dec_lt}
use native.Mathlib.Omega.{arith}
use mathlib.Core.Path.{◌≡◌, refl, sym, ap, subst, ◌∙◌}
use mathlib.Core.Bool.{Bool, true, false, cond}
use mathlib.Core.Logic.{◌⊎◌, inl, inr}
use mathlib.Core.List.{List}
use borrow.Author.Tests.{le-ltb, lt-ltb, eq-eqb, ne_eqb}
use lib.Dec.{eqb, ltb}
use lib.ListN.{get_or}
use Rattle.calendar.specs.Calendar.{leap_day}
use Rattle.meter.specs.Integer.{be_at}
use Rattle.meter.specs.Time.{last_milli, time_of, time_at, order_of}
use Rattle.std.specs.declared.option.Option.TheVariants.{Some, None}
use Rattle.std.specs.declared.cmp.Ordering.TheVariants.{Less, Equal, Greater}
use Rattle.std.specs.declared.option.Option.{Option}
use Rattle.meter.specs.declared.time.Time.{Time}
use Rattle.meter.specs.Instant as T
use Rattle.meter.proofs.IntegerLaws.{be_at_lt}
use Rattle.meter.proofs.TimeLaws.{bits_none, bits_some}
use Rattle.moment.specs.Moment.{extra_before, on_line, gap_between, overlap_between, undefined_between}
use Rattle.moment.specs.Pairing.{extra_of, BetweenIs}
use Rattle.moment.specs.declared.Between.{Between}

-- ---- the extra seconds
on : ℕ → ℕ → ℕ
on k d = cond (eqb d k) 1000 0

extra_next : (k d : ℕ) → extra_of k (suc d) ≡ extra_of k d + on k d
unfolding extra_of on
extra_next k d = go (dec_lt d k) (ℕ_discrete d k)
  where
    go : Dec (d < k) → Dec (d ≡ k) → cond (ltb k (suc d)) 1000 0 ≡ cond (ltb k d) 1000 0 + cond (eqb d k) 1000 0
    go (yes l) q = rw (le-ltb k (suc d) (omega arith), le-ltb k d (omega arith), ne_eqb d k (λ e. omega arith)) refl
    go (no l) (yes e) = rw (lt-ltb k (suc d) (omega arith), le-ltb k d (omega arith), eq-eqb d k e) refl
    go (no l) (no n) = rw (lt-ltb k (suc d) (omega arith), lt-ltb k d (omega (arith, l, n)), ne_eqb d k n) refl

leap_on : (d : ℕ) → cond (leap_day d) 1000 0 ≡ on 2191 d + on 3287 d + on 4564 d + on 5659 d + on 6209 d
unfolding on leap_day
leap_on d = go (ℕ_discrete d 2191) (ℕ_discrete d 3287) (ℕ_discrete d 4564) (ℕ_discrete d 5659) (ℕ_discrete d 6209)
  where
    go :
        Dec (d ≡ 2191) → Dec (d ≡ 3287) → Dec (d ≡ 4564) → Dec (d ≡ 5659) → Dec (d ≡ 6209)
        → cond (leap_day d) 1000 0 ≡ cond (eqb d 2191) 1000 0 + cond (eqb d 3287) 1000 0 + cond (eqb d 4564) 1000 0 + cond (eqb d 5659) 1000 0 + cond (eqb d 6209) 1000 0
    go (yes e) p q r s = rw e refl
    go (no f) (yes e) q r s = rw e refl
    go (no f) (no g) (yes e) r s = rw e refl
    go (no f) (no g) (no h) (yes e) s = rw e refl
    go (no f) (no g) (no h) (no k) (yes e) = rw e refl
    go (no f) (no g) (no h) (no k) (no l) = rw (ne_eqb d 2191 f, ne_eqb d 3287 g, ne_eqb d 4564 h, ne_eqb d 5659 k, ne_eqb d 6209 l) refl

before_all : 0 ≡ extra_of 2191 0 + extra_of 3287 0 + extra_of 4564 0 + extra_of 5659 0 + extra_of 6209 0
unfolding extra_of
before_all = refl

pub extra_is : (d : ℕ) → extra_before d ≡ extra_of 2191 d + extra_of 3287 d + extra_of 4564 d + extra_of 5659 d + extra_of 6209 d
unfolding extra_before
extra_is zero = before_all
extra_is (suc d) = omega (arith, extra_is d, leap_on d, extra_next 2191 d, extra_next 3287 d, extra_next 4564 d, extra_next 5659 d, extra_next 6209 d)

one_most : (k d : ℕ) → extra_of k d ≤ 1000
unfolding extra_of
one_most k d = go (ltb k d)
  where
    go : (b : Bool) → cond b 1000 0 ≤ 1000
    go true = omega arith
    go false = omega arith

pub extra_most : (d : ℕ) → extra_before d ≤ 5000
extra_most d = omega (arith, extra_is d, one_most 2191 d, one_most 3287 d, one_most 4564 d, one_most 5659 d, one_most 6209 d)

-- ---- NO HOLE: after the last millisecond of a day, the extra second's where it has one, comes the first of the next
pub next_day : (d : ℕ) → on_line (suc d) 0 ≡ on_line d (last_milli d) + 1
unfolding extra_before last_milli
next_day d = go (leap_day d)
  where
    go : (b : Bool) → suc d * 86400000 + (extra_before d + cond b 1000 0) + 0 ≡ d * 86400000 + extra_before d + cond b 86400999 86399999 + 1
    go true = omega arith
    go false = omega arith

days_le : (d e : ℕ) → d ≤ e → on_line d 0 ≤ on_line e 0
days_le d zero h = let z : d ≡ 0 = omega arith in rw z (omega arith)
days_le d (suc e) h = go (ℕ_discrete d (suc e)) (days_le d e)
  where
    go : Dec (d ≡ suc e) → (d ≤ e → on_line d 0 ≤ on_line e 0) → on_line d 0 ≤ on_line (suc e) 0
    go (yes q) f = rw q (omega arith)
    go (no n) f = omega (arith, f (omega (arith, n)), next_day e)

-- a later day is later on the line
pub later_day : (d m e n : ℕ) → d < e → m ≤ last_milli d → on_line d m < on_line e n
later_day d m e n h l = omega (arith, next_day d, days_le (suc d) e h)

-- ---- THE ORDER on the line is that of times, by day and then millisecond
pub line_order :
    (d m e n : ℕ) → m ≤ last_milli d → n ≤ last_milli e
    → order_of d m e n ≡ cond (ltb (on_line d m) (on_line e n)) Less (cond (ltb (on_line e n) (on_line d m)) Greater Equal)
line_order d m e n p q = go (dec_lt d e) (dec_lt e d) (dec_lt m n) (dec_lt n m)
  where
    go : Dec (d < e) → Dec (e < d) → Dec (m < n) → Dec (n < m) → order_of d m e n ≡ cond (ltb (on_line d m) (on_line e n)) Less (cond (ltb (on_line e n) (on_line d m)) Greater Equal)
    go (yes h) b x y = rw (lt-ltb d e h, lt-ltb (on_line d m) (on_line e n) (later_day d m e n h p)) refl
    go (no g) (yes h) x y =
        let l = later_day e n d m h q in
        rw (le-ltb d e (omega (arith, g)), lt-ltb e d h, le-ltb (on_line d m) (on_line e n) (omega (arith, l)), lt-ltb (on_line e n) (on_line d m) l) refl
    go (no g) (no h) (yes x) y =
        let z : d ≡ e = omega (arith, g, h) in
        rw (le-ltb d e (omega (arith, z)), le-ltb e d (omega (arith, z)), lt-ltb m n x, lt-ltb (on_line d m) (on_line e n) (omega (arith, z, ap extra_before z))) refl
    go (no g) (no h) (no x) (yes y) =
        let z : d ≡ e = omega (arith, g, h) in
        rw (le-ltb d e (omega (arith, z)), le-ltb e d (omega (arith, z)), le-ltb m n (omega (arith, x)), lt-ltb n m y, le-ltb (on_line d m) (on_line e n) (omega (arith, y, z, ap extra_before z)), lt-ltb (on_line e n) (on_line d m) (omega (arith, y, z, ap extra_before z))) refl
    go (no g) (no h) (no x) (no y) =
        let z : d ≡ e = omega (arith, g, h) in
        rw (le-ltb d e (omega (arith, z)), le-ltb e d (omega (arith, z)), le-ltb m n (omega (arith, x)), le-ltb n m (omega (arith, y)), le-ltb (on_line d m) (on_line e n) (omega (arith, x, y, z, ap extra_before z)), le-ltb (on_line e n) (on_line d m) (omega (arith, x, y, z, ap extra_before z))) refl

-- ---- "A gap across one of request Two's days counts that day's extra second": from its millisecond 86,399,999 to the next day's first
pub gap_across : (d : ℕ) → leap_day d ≡ true → gap_between (T.At d 86399999) (T.At (suc d) 0) ≡ 1001
unfolding extra_before
gap_across d e = rw e (omega arith)

pub gap_plain : (d : ℕ) → leap_day d ≡ false → gap_between (T.At d 86399999) (T.At (suc d) 0) ≡ 1
unfolding extra_before
gap_plain d e = rw e (omega arith)

-- a pair has a gap or an overlap, not both
pub gap_or_overlap : (t u : Option Time) → (gap_between t u ≡ 0) ⊎ (overlap_between t u ≡ 0)
gap_or_overlap None u = inl refl
gap_or_overlap (Some t) None = inl refl
gap_or_overlap (Some t) (Some u) = go (dec_lt (on_line t.day t.milli) (on_line u.day u.milli))
  where
    go : Dec (on_line t.day t.milli < on_line u.day u.milli) → (on_line u.day u.milli - on_line t.day t.milli ≡ 0) ⊎ (on_line t.day t.milli - on_line u.day u.milli ≡ 0)
    go (yes h) = inr (omega arith)
    go (no h) = inl (omega (arith, h))

-- ---- the times of 48 bits
abbrev pub Low : Option Time → Type 0
Low None = Unit
Low (Some t) = on_line t.day t.milli ≤ 8796093022208

pub low_bits : (bits : ℕ) → bits < 281474976710656 → Low (time_of bits)
low_bits bits h = go (ℕ_discrete bits 0xffff_ffff_ffff)
  where
    go : Dec (bits ≡ 0xffff_ffff_ffff) → Low (time_of bits)
    go (yes e) = subst Low (sym (bits_none bits e)) tt
    go (no n) = subst Low (sym (bits_some bits n)) (omega (arith, extra_most (bits / 0x1_0000_0000)))

pub gap_most : (t u : Option Time) → Low t → Low u → gap_between t u ≤ 8796093022208
gap_most None u p q = omega arith
gap_most (Some t) None p q = omega arith
gap_most (Some t) (Some u) p q = omega arith

pub overlap_most : (t u : Option Time) → Low t → Low u → overlap_between t u ≤ 8796093022208
overlap_most None u p q = omega arith
overlap_most (Some t) None p q = omega arith
overlap_most (Some t) (Some u) p q = omega arith

pub undefined_most : (t u : Option Time) → Low t → Low u → undefined_between t u ≤ 8796093022208
undefined_most None u p q = omega arith
undefined_most (Some t) None p q = omega arith
undefined_most (Some t) (Some u) p q = omega arith

module _ (a : List ℕ) (byte : (k : ℕ) → get_or a k 0 < 256) where
  pub low_at : (k : ℕ) → Low (time_at a k)
  low_at k = low_bits (be_at a k 6) (be_at_lt a byte k 6)

-- ---- one stop and the next start, by their bits
abbrev betweens : ℕ → ℕ → ℕ → Between
betweens x y z = record { gap = x; overlap = y; undefined = z }

none_after : (t u : Option Time) → u ≡ None → BetweenIs t u (betweens 0 0 1)
none_after None u e = record { gap = refl; overlap = refl; undefined = refl }
none_after (Some t) u e = rw e (record { gap = refl; overlap = refl; undefined = refl })

pub no_stop : (stop start : ℕ) → stop ≡ 0xffff_ffff_ffff → BetweenIs (time_of stop) (time_of start) (betweens 0 0 1)
no_stop stop start e = rw (bits_none stop e) (record { gap = refl; overlap = refl; undefined = refl })

pub no_start : (stop start : ℕ) → start ≡ 0xffff_ffff_ffff → BetweenIs (time_of stop) (time_of start) (betweens 0 0 1)
no_start stop start e = none_after (time_of stop) (time_of start) (bits_none start e)

abbrev line_of : ℕ → ℕ
line_of bits = on_line (bits / 0x1_0000_0000) (bits % 0x1_0000_0000)

pub both_some :
    (stop start : ℕ) → (stop ≡ 0xffff_ffff_ffff → ⊥) → (start ≡ 0xffff_ffff_ffff → ⊥)
    → BetweenIs (time_of stop) (time_of start) (betweens (line_of start - line_of stop) (line_of stop - line_of start) 0)
both_some stop start some-stop some-start = rw (bits_some stop some-stop, bits_some start some-start) (record { gap = refl; overlap = refl; undefined = refl })

below_greater : (x y : ℕ) {z : ℕ} → z ≡ max x y → (z - x ≡ y - x) × (z - y ≡ x - y)
below_greater x y e = (omega arith, omega arith)

-- with x and y on the line, and y for x where one is undefined; end is the greater
module _ (stop start : ℕ) {x y none from end : ℕ} (x-is : x ≡ line_of stop) (y-is : y ≡ line_of start) (none_is : none ≡ undefined_between (time_of stop) (time_of start))
    (from_is : (none ≡ 0 → from ≡ x) × (none ≡ 1 → from ≡ y)) (end_is : end ≡ max from y) where
  not_both : BetweenIs (time_of stop) (time_of start) (betweens 0 0 1) → BetweenIs (time_of stop) (time_of start) (betweens (end - from) (end - y) none)
  not_both b =
      let e = from_is.1 (none_is ∙ sym b.undefined) in
      let g : end - from ≡ 0 = omega arith in
      let o : end - y ≡ 0 = omega arith in
      record { gap = g ∙ b.gap; overlap = o ∙ b.overlap; undefined = none_is }

  pub between_is : BetweenIs (time_of stop) (time_of start) (betweens (end - from) (end - y) none)
  between_is = go (ℕ_discrete stop 0xffff_ffff_ffff) (ℕ_discrete start 0xffff_ffff_ffff)
    where
      go : Dec (stop ≡ 0xffff_ffff_ffff) → Dec (start ≡ 0xffff_ffff_ffff) → BetweenIs (time_of stop) (time_of start) (betweens (end - from) (end - y) none)
      go (yes e) q = not_both (no_stop stop start e)
      go (no d) (yes e) = not_both (no_start stop start e)
      go (no d) (no f) =
          let b = both_some stop start d f in
          let e = from_is.0 (none_is ∙ sym b.undefined) ∙ x-is in
          let p = below_greater from y end_is in
          record { gap = p.0 ∙ rw (e, y-is) b.gap; overlap = p.1 ∙ rw (e, y-is) b.overlap; undefined = none_is }

-- how far a stop lies after a start, by where the two stand
pub overlap_is :
    (t u : Option Time) (d m e n p q r : ℕ) → t ≡ T.At d m → u ≡ T.At e n → p ≡ on_line d m → q ≡ on_line e n → r ≡ p - q
    → r ≡ overlap_between t u
overlap_is t u d m e n p q r x y v w z = rw (x, y, z, v, w) refl
