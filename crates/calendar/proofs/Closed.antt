-- The code's closed forms are the calendar: the number of a date of 2000 to 2179, and the date of a day number.
-- By small tests over 180 years, 12 months and 366 days, and arithmetic: 29 February 2100 is the one day that the rule of four years counts too many.
-- Assumes nothing.
use mathlib.Core.Path.{◌≡◌, refl, sym, ap, ◌∙◌, subst}
use mathlib.Core.Bool.{Bool, true, false, cond, not, ◌&&◌, ◌||◌, beq, and-true, true≢false}
use Prim.Native.Nat.{ℕ, zero, suc, ◌+◌, ◌-◌, ◌*◌, ◌/◌, ◌%◌, ◌≤◌, ◌<◌}
use native.Mathlib.Decide.{dec_lt, ℕ_discrete}
use native.Mathlib.Omega.{arith}
use borrow.Author.Tests.{eq-eqb, ne_eqb, lt-ltb, le-ltb}
use lib.Dec.{T, eqb, eqb→eq, leb, leb→le, ltb, ltb→lt}
use Rattle.calendar.specs.declared.Date.{Date}
use Rattle.calendar.specs.Calendar.{leap, days_in, date, date_of, months_before, years_before, days_to}
use Rattle.calendar.specs.Closed.{layout_of, month_at, start_of, shift_of, counted, closed_number}
use Rattle.calendar.proofs.Range.{below, at, same}
use Rattle.calendar.proofs.Dates.{Valid, days_high, years_suc, valid_number}

-- ---- a year's months look at the year only through `leap`
abbrev days_of : Bool → ℕ → ℕ
days_of l m = cond (eqb m 2) (cond l 29 28) (cond (eqb m 4 || eqb m 6 || eqb m 9 || eqb m 11) 30 31)

unfoldable months_of : Bool → ℕ → ℕ
months_of l zero = 0
months_of l (suc m) = months_of l m + days_of l (suc m)

by_leap : (y m : ℕ) → months_before y m ≡ months_of (leap y) m
unfolding months_before months_of
by_leap y zero = refl
by_leap y (suc m) = ap (λ (k : ℕ). k + days_in y (suc m)) (by_leap y m)

-- the first m months, and the 29 February that a year lacks, are the layout's
abbrev laid : Bool → ℕ → Bool
laid l m = eqb (months_of l m + cond (l || ltb (suc m) 3) 0 1) (start_of (suc m))

all_laid : (l : Bool) → T (below (laid l) 12)
unfolding months_of
all_laid true = tt
all_laid false = tt

starts : (l : Bool) (m : ℕ) → m < 12 → months_of l m + cond (l || ltb (suc m) 3) 0 1 ≡ start_of (suc m)
starts l m h = eqb→eq (months_of l m + cond (l || ltb (suc m) 3) 0 1) (start_of (suc m)) (at (laid l) 12 (all_laid l) m h)

-- ---- the years from 2000 on, by the rule of four years, but 2100
ruled : ℕ → Bool
ruled k = beq (leap (2000 + k)) (eqb (k % 4) 0 && not (eqb k 100))

all_ruled : T (below ruled 180)
unfolding ruled
all_ruled = tt

leap_is : (k : ℕ) → k < 180 → leap (2000 + k) ≡ eqb (k % 4) 0 && not (eqb k 100)
unfolding ruled
leap_is k h = same (leap (2000 + k)) (eqb (k % 4) 0 && not (eqb k 100)) (at ruled 180 all_ruled k h)

abbrev first_of : ℕ → ℕ
first_of k = (1461 * k + 3) / 4

long : ℕ → Bool
long k = eqb k 100 || eqb (first_of (suc k)) (first_of k + months_before (2000 + k) 12)

all_long : T (below long 180)
unfolding long months_before
all_long = tt

long_at : (k : ℕ) → k < 180 → T (long k)
long_at k h = at long 180 all_long k h

year_long : (k : ℕ) → k < 180 → (k ≡ 100 → ⊥) → first_of (suc k) ≡ first_of k + months_before (2000 + k) 12
unfolding long
year_long k h d = eqb→eq (first_of (suc k)) (first_of k + months_before (2000 + k) 12) (simp (ne_eqb k 100 d) at (long_at k h))

years_none : years_before 0 ≡ 0
unfolding years_before
years_none = refl

months_2100 : months_before 2100 12 ≡ 365
unfolding months_before
months_2100 = refl

to_2100 : (k : ℕ) → k ≤ 100 → years_before k ≡ first_of k
to_2100 zero h = years_none
to_2100 (suc k) h = omega (arith, years_suc k, to_2100 k (omega arith), year_long k (omega arith) (λ e. omega arith))

from_2101 : (j : ℕ) → j < 80 → suc (years_before (101 + j)) ≡ first_of (101 + j)
from_2101 zero h = omega (arith, years_suc 100, to_2100 100 (omega arith), months_2100)
from_2101 (suc j) h =
    let e : 101 + suc j ≡ suc (101 + j) = omega arith in
    omega (arith, ap years_before e, years_suc (101 + j), from_2101 j (omega arith), year_long (101 + j) (omega arith) (λ f. omega arith))

-- ---- the closed number of a date
pub start_le : (m : ℕ) → m ≤ 12 → start_of m ≤ 335
start_le m h = leb→le (start_of m) 335 (at (λ (i : ℕ). leb (start_of i) 335) 13 tt m (omega arith))

module _ (a s b m d : ℕ) (e : m + b ≡ s) (h : s ≤ 335) (k : d ≤ 30) where
  count_low : a ≤ 36200 → counted (a + (s + (suc d - 1) - b)) ≡ a + m + d
  count_low l = omega arith

  count_high : 36585 ≤ a → a ≤ 65400 → suc (counted (a + (s + (suc d - 1) - b))) ≡ a + m + d
  count_high l o = omega arith

-- the months before a month, in a year other than 2100
shifted : (k m : ℕ) → k < 180 → (k ≡ 100 → ⊥) → m < 12 → months_before (2000 + k) m + shift_of k (suc m) ≡ start_of (suc m)
shifted k m h d l =
    let e : leap (2000 + k) ≡ eqb (k % 4) 0 = leap_is k h ∙ simp (ne_eqb k 100 d) (and-true (eqb (k % 4) 0)) in
    let f : months_before (2000 + k) m ≡ months_of (eqb (k % 4) 0) m = by_leap (2000 + k) m ∙ ap (λ (b : Bool). months_of b m) e in
    ap (λ (i : ℕ). i + shift_of k (suc m)) f ∙ starts (eqb (k % 4) 0) m l

-- 2100: the first two months are as in every year, and from March on the layout counts the day that is missing
late_count : (s m d : ℕ) → suc m ≡ s → 60 ≤ s → s ≤ 335 → d ≤ 30 → counted (36525 + (s + (suc d - 1) - 0)) ≡ 36525 + m + d
late_count s m d e h k l = omega arith

late_start : (m : ℕ) → 2 ≤ m → m < 12 → suc (months_before 2100 m) ≡ start_of (suc m)
late_start m h l =
    let e : ltb (suc m) 3 ≡ false = le-ltb (suc m) 3 (omega arith) in
    let f : months_of false m + 1 ≡ start_of (suc m) = ap (λ (b : Bool). months_of false m + cond b 0 1) (sym e) ∙ starts false m l in
    omega (arith, by_leap 2100 m, f)

late_2100 : (m d : ℕ) → 2 ≤ m → m < 12 → d ≤ 30 → closed_number 100 (suc m) (suc d) ≡ years_before 100 + months_before 2100 m + d
unfolding closed_number
late_2100 m d h l k =
    let o : 60 ≤ start_of (suc m) = simp (le-ltb (suc m) 3 (omega arith)) (omega arith) in
    let c = late_count (start_of (suc m)) (months_before 2100 m) d (late_start m h l) o (start_le (suc m) l) k in
    omega (arith, c, to_2100 100 (omega arith))

in_2100 : (m d : ℕ) → m < 12 → d < days_in 2100 (suc m) → closed_number 100 (suc m) (suc d) ≡ years_before 100 + months_before 2100 m + d
unfolding closed_number months_before
in_2100 zero d h l = omega (arith, to_2100 100 (omega arith))
in_2100 (suc zero) d h l = omega (arith, to_2100 100 (omega arith))
in_2100 (suc (suc m)) d h l = late_2100 (suc (suc m)) d (omega arith) h (omega (arith, days_high 2100 (suc (suc (suc m)))))

number_at : (k m d : ℕ) → k < 180 → m < 12 → d < days_in (2000 + k) (suc m) → closed_number k (suc m) (suc d) ≡ years_before k + months_before (2000 + k) m + d
unfolding closed_number
number_at k m d h l f = go (dec_lt k 100) (ℕ_discrete k 100)
  where
    high : d ≤ 30
    high = omega (arith, days_high (2000 + k) (suc m))

    go : Dec (k < 100) → Dec (k ≡ 100) → closed_number k (suc m) (suc d) ≡ years_before k + months_before (2000 + k) m + d
    go (yes p) q =
        let c = count_low (first_of k) (start_of (suc m)) (shift_of k (suc m)) (months_before (2000 + k) m) d (shifted k m h (λ e. omega arith) l) (start_le (suc m) l) high (omega arith) in
        omega (arith, c, to_2100 k (omega arith))
    go (no p) (yes q) =
        subst (λ (i : ℕ). closed_number i (suc m) (suc d) ≡ years_before i + months_before (2000 + i) m + d) (sym q)
        (in_2100 m d l (subst (λ (i : ℕ). d < days_in (2000 + i) (suc m)) q f))
    go (no p) (no q) =
        let j = k - 101 in
        let e : 101 + j ≡ k = omega (arith, p, q) in
        let y : suc (years_before k) ≡ first_of k = subst (λ (i : ℕ). suc (years_before i) ≡ first_of i) e (from_2101 j (omega arith)) in
        let c = count_high (first_of k) (start_of (suc m)) (shift_of k (suc m)) (months_before (2000 + k) m) d (shifted k m h q l) (start_le (suc m) l) high (omega arith) (omega arith) in
        omega (arith, c, y)

pub closed_number_lem : (k m d : ℕ) → k < 180 → Valid (date (2000 + k) m d) → closed_number k m d ≡ days_to (date (2000 + k) m d)
unfolding days_to
closed_number_lem k m d h v =
    let em : suc (m - 1) ≡ m = omega (arith, v.month_from) in
    let ed : suc (d - 1) ≡ d = omega (arith, v.day_from) in
    let f : d - 1 < days_in (2000 + k) (suc (m - 1)) = subst (λ (i : ℕ). d - 1 < days_in (2000 + k) i) (sym em) (omega (arith, v.day_to, v.day_from)) in
    let ek : 2000 + k - 2000 ≡ k = omega arith in
    let n = number_at k (m - 1) (d - 1) h (omega (arith, v.month_from, v.month_to)) f in
    ap (λ (i : ℕ). closed_number k i d) (sym em) ∙ ap (closed_number k (suc (m - 1))) (sym ed) ∙ n ∙ ap (λ (i : ℕ). years_before i + months_before (2000 + k) (m - 1) + (d - 1)) (sym ek)

pub closed_of : (x : Date) → Valid x → 2000 ≤ x.year → x.year ≤ 2179 → closed_number (x.year - 2000) x.month x.day ≡ days_to x
closed_of x v h k =
    let e : 2000 + (x.year - 2000) ≡ x.year = omega arith in
    subst (λ (y : ℕ). closed_number (x.year - 2000) x.month x.day ≡ days_to (date y x.month x.day)) e
    (closed_number_lem (x.year - 2000) x.month x.day (omega arith) (subst (λ (y : ℕ). Valid (date y x.month x.day)) (sym e) v))

-- ---- what the sums of the code need
pub shift_le : (y m : ℕ) → shift_of y m ≤ start_of m
shift_le y m = go (eqb (y % 4) 0) (ltb m 3)
  where
    go : (a b : Bool) → cond (a || b) 0 1 ≤ cond b (31 * (m - 1)) ((153 * (m - 3) + 2) / 5 + 60)
    go true b = omega arith
    go false true = omega arith
    go false false = omega arith

-- ---- the layout of a year: the month of a day, and the day in its month
module _ (d : ℕ) (h : d < 366) where
  pub month_from : 1 ≤ month_at d
  month_from = leb→le 1 (month_at d) (at (λ (i : ℕ). leb 1 (month_at i)) 366 tt d h)

  pub month_to : month_at d ≤ 12
  month_to = leb→le (month_at d) 12 (at (λ (i : ℕ). leb (month_at i) 12) 366 tt d h)

  pub start_to : start_of (month_at d) ≤ d
  start_to = leb→le (start_of (month_at d)) d (at (λ (i : ℕ). leb (start_of (month_at i)) i) 366 tt d h)

  pub start_near : d ≤ start_of (month_at d) + 30
  start_near = leb→le d (start_of (month_at d) + 30) (at (λ (i : ℕ). leb i (start_of (month_at i) + 30)) 366 tt d h)

  -- a day that is not the 29 February of a year that lacks it
  day_to : (l : Bool) → (l ≡ false → d ≡ 59 → ⊥) → d - start_of (month_at d) + 1 ≤ days_of l (month_at d)
  day_to true n = leb→le (d - start_of (month_at d) + 1) (days_of true (month_at d)) (at (λ (i : ℕ). leb (i - start_of (month_at i) + 1) (days_of true (month_at i))) 366 tt d h)
  day_to false n =
      leb→le (d - start_of (month_at d) + 1) (days_of false (month_at d))
      (subst (λ (b : Bool). T (b || leb (d - start_of (month_at d) + 1) (days_of false (month_at d)))) (ne_eqb d 59 (n refl)) (at (λ (i : ℕ). eqb i 59 || leb (i - start_of (month_at i) + 1) (days_of false (month_at i))) 366 tt d h))

month_early : (d : ℕ) → d < 60 → month_at d < 3
month_early d h = ltb→lt (month_at d) 3 (at (λ (i : ℕ). ltb (month_at i) 3) 60 tt d h)

month_late : (d : ℕ) → 60 ≤ d → 3 ≤ month_at d
month_late d h = simp (le-ltb d 31 (omega arith), le-ltb d 60 h) (omega arith)

-- a day r of year y, laid out, is shifted back to r; and it is 29 February only in a year of the rule of four
record Laid (r y d : ℕ) : Type 0 where
  small : d < 366
  back : d ≡ r + shift_of y (month_at d)
  gap : (y % 4 ≡ 0 → ⊥) → d ≡ 59 → ⊥
  whole : y % 4 ≡ 0 → d ≡ r

laid_out : (r y : ℕ) → r < 366 → ((y % 4 ≡ 0 → ⊥) → r < 365) → Laid r y (layout_of r y)
laid_out r y h k = go (ℕ_discrete (y % 4) 0) (dec_lt r 59)
  where
    go : Dec (y % 4 ≡ 0) → Dec (r < 59) → Laid r y (layout_of r y)
    go (yes p) q = simp (eq-eqb (y % 4) 0 p) (record { small = h; back = simp (eq-eqb (y % 4) 0 p) (omega arith); gap = λ n. absurd (n p); whole = λ e. refl })
    go (no p) (yes q) =
        simp (ne_eqb (y % 4) 0 p, lt-ltb r 59 q)
        (record { small = h; back = simp (ne_eqb (y % 4) 0 p, lt-ltb (month_at r) 3 (month_early r (omega arith))) (omega arith); gap = λ n e. omega arith; whole = λ e. refl })
    go (no p) (no q) =
        simp (ne_eqb (y % 4) 0 p, le-ltb r 59 (omega (arith, q)))
        (record { small = omega (arith, k p); back = simp (ne_eqb (y % 4) 0 p, le-ltb (month_at (r + 1)) 3 (month_late (r + 1) (omega (arith, q)))) (omega arith); gap = λ n e. omega (arith, q); whole = λ e. absurd (p e) })

-- ---- the date of a day number, as the code finds it
abbrev pub day_at : ℕ → ℕ
day_at n = n + n / 36584

abbrev pub year_at : ℕ → ℕ
year_at n = 4 * day_at n / 1461

abbrev pub place_at : ℕ → ℕ
place_at n = layout_of (day_at n - (1461 * year_at n + 3) / 4) (year_at n)

abbrev pub dated : ℕ → ℕ → Date
dated y d = date (2000 + y) (month_at d) (d - start_of (month_at d) + 1)

-- a year that is no fourth one has 365 days
short : (t y q i : ℕ) → y ≡ 4 * q + suc i → 4 * t < 1461 * y + 1461 → i < 3 → t < 365 + first_of y
short t y q zero e h l = let f : first_of y ≡ 1461 * q + 366 = omega arith in omega arith
short t y q (suc zero) e h l = let f : first_of y ≡ 1461 * q + 731 = omega arith in omega arith
short t y q (suc (suc zero)) e h l = let f : first_of y ≡ 1461 * q + 1096 = omega arith in omega arith
short t y q (suc (suc (suc i))) e h l = absurd (omega arith)

undone : (t f d s b : ℕ) → f ≤ t → s ≤ d → d ≡ t - f + b → f + (s + (d - s + 1 - 1) - b) ≡ t
undone t f d s b h k e = omega arith

skipped : (n : ℕ) → day_at n ≡ 36584 → ⊥
skipped n e = omega arith

uncounted : (n : ℕ) → n < 65536 → counted (day_at n) ≡ n
uncounted n h = omega arith

module _ (n : ℕ) (h : n < 65536) where
  place : Laid (day_at n - first_of (year_at n)) (year_at n) (place_at n)
  place = laid_out (day_at n - first_of (year_at n)) (year_at n) (omega arith) (λ p. late-short p)
    where
      late-short : (year_at n % 4 ≡ 0 → ⊥) → day_at n - first_of (year_at n) < 365
      late-short p = omega (arith, short (day_at n) (year_at n) (year_at n / 4) (year_at n % 4 - 1) (omega (arith, p)) (omega arith) (omega arith))

  pub place_small : place_at n < 366
  place_small = place.small

  not_missing : leap (2000 + year_at n) ≡ false → place_at n ≡ 59 → ⊥
  not_missing e f = go (ℕ_discrete (year_at n % 4) 0) (ℕ_discrete (year_at n) 100)
    where
      go : Dec (year_at n % 4 ≡ 0) → Dec (year_at n ≡ 100) → ⊥
      go (no p) q = place.gap p f
      go (yes p) (yes q) = skipped n (let e : first_of (year_at n) ≡ 36525 = ap first_of q in let w = place.whole p in omega arith)
      go (yes p) (no q) =
          let r : leap (2000 + year_at n) ≡ true = leap_is (year_at n) (omega arith) ∙ simp (eq-eqb (year_at n % 4) 0 p, ne_eqb (year_at n) 100 q) in
          true≢false (sym r ∙ e)

  dated_valid : Valid (dated (year_at n) (place_at n))
  dated_valid =
      record { month_from = month_from (place_at n) place_small; month_to = month_to (place_at n) place_small; day_from = omega arith; day_to = day_to (place_at n) place_small (leap (2000 + year_at n)) not_missing }

  dated_number : closed_number (year_at n) (month_at (place_at n)) (place_at n - start_of (month_at (place_at n)) + 1) ≡ n
  unfolding closed_number
  dated_number =
      let d = place_at n in
      let m = month_at d in
      ap counted (undone (day_at n) (first_of (year_at n)) d (start_of m) (shift_of (year_at n) m) (omega arith) (start_to d place_small) place.back) ∙ uncounted n h

  pub dated_is : dated (year_at n) (place_at n) ≡ date_of n
  dated_is =
      let x = dated (year_at n) (place_at n) in
      let e : days_to x ≡ n = sym (closed_number_lem (year_at n) x.month x.day (omega arith) dated_valid) ∙ dated_number in
      sym (valid_number x dated_valid (omega arith)) ∙ ap date_of e
