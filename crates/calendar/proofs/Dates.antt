-- The laws of the calendar's definitions: a day's number gives its date and that date the number, in the same order, and every other date is refused.
-- By induction on days, months and years: each next day is the day after, and its number is one more.
-- Assumes nothing.
use mathlib.Core.Path.{◌≡◌, refl, sym, ap, ◌∙◌, subst}
use mathlib.Core.Bool.{Bool, true, false, cond, ◌&&◌, ◌||◌, and-false}
use Prim.Native.Nat.{ℕ, zero, suc, ◌+◌, ◌-◌, ◌*◌, ◌≤◌, ◌<◌}
use native.Mathlib.Nat.{add-zero, add-suc, add_assoc}
use native.Mathlib.Decide.{dec_lt, ℕ_discrete}
use native.Mathlib.Omega.{arith}
use borrow.Author.Tests.{le-leb, lt-leb, lt-ltb, le-ltb, leb-true}
use lib.Dec.{eqb, leb}
use Rattle.calendar.specs.declared.Date.{Date}
use Rattle.calendar.specs.Said.{answer, refusal}
use Rattle.calendar.specs.Calendar.{leap, days_in, date, is_date, next, date_of, months_before, years_before, days_to, has_day, day_number_of}

-- ---- a date of the calendar, of any year
pub record Valid (x : Date) : Type 0 where
  pub month_from : 1 ≤ x.month
  pub month_to : x.month ≤ 12
  pub day_from : 1 ≤ x.day
  pub day_to : x.day ≤ days_in x.year x.month

days_low : (y m : ℕ) → 28 ≤ days_in y m
days_low y m = go (eqb m 2) (leap y) (eqb m 4 || eqb m 6 || eqb m 9 || eqb m 11)
  where
    go : (a b c : Bool) → 28 ≤ cond a (cond b 29 28) (cond c 30 31)
    go true true c = omega arith
    go true false c = omega arith
    go false b true = omega arith
    go false b false = omega arith

pub days_high : (y m : ℕ) → days_in y m ≤ 31
days_high y m = go (eqb m 2) (leap y) (eqb m 4 || eqb m 6 || eqb m 9 || eqb m 11)
  where
    go : (a b c : Bool) → cond a (cond b 29 28) (cond c 30 31) ≤ 31
    go true true c = omega arith
    go true false c = omega arith
    go false b true = omega arith
    go false b false = omega arith

pub valid_day : (x : Date) → Valid x → x.day ≤ 31
valid_day x v = omega (arith, v.day_to, days_high x.year x.month)

both_true : (a b : Bool) → a && b ≡ true → (a ≡ true) × (b ≡ true)
both_true true b e = (refl, e)
both_true false b e = (e, let z : ◌≡◌ {A = ℕ} 0 1 = cc in absurd (omega arith))

pub valid : (x : Date) → is_date x ≡ true → Valid x
unfolding is_date
valid x e =
    let y = x.year in
    let m = x.month in
    let d = x.day in
    let p = both_true (leb y 9999) ((leb 1 m && leb m 12) && (leb 1 d && leb d (days_in y m))) e in
    let q = both_true (leb 1 m && leb m 12) (leb 1 d && leb d (days_in y m)) p.1 in
    let r = both_true (leb 1 m) (leb m 12) q.0 in
    let s = both_true (leb 1 d) (leb d (days_in y m)) q.1 in
    record { month_from = leb-true 1 m r.0; month_to = leb-true m 12 r.1; day_from = leb-true 1 d s.0; day_to = leb-true d (days_in y m) s.1 }

-- what is left of the definition once all but the day's end is seen
pub day_left : (x : Date) → x.year ≤ 9999 → 1 ≤ x.month → x.month ≤ 12 → 1 ≤ x.day → leb x.day (days_in x.year x.month) ≡ is_date x
unfolding is_date
day_left x h k l o = simp (le-leb _ _ h, le-leb _ _ k, le-leb _ _ l, le-leb _ _ o)

pub is_date_lem : (x : Date) → Valid x → x.year ≤ 9999 → is_date x ≡ true
is_date_lem x v h = sym (day_left x h v.month_from v.month_to v.day_from) ∙ le-leb x.day (days_in x.year x.month) v.day_to

-- ---- the day after, by its three cases
next_day : (x : Date) → x.day < days_in x.year x.month → next x ≡ date x.year x.month (suc x.day)
next_day x h = simp (lt-ltb x.day (days_in x.year x.month) h)

next_month : (x : Date) → days_in x.year x.month ≤ x.day → x.month < 12 → next x ≡ date x.year (suc x.month) 1
next_month x h k = simp (le-ltb x.day (days_in x.year x.month) h, lt-ltb x.month 12 k)

next_year : (x : Date) → days_in x.year x.month ≤ x.day → 12 ≤ x.month → next x ≡ date (suc x.year) 1 1
next_year x h k = simp (le-ltb x.day (days_in x.year x.month) h, le-ltb x.month 12 k)

-- what holds of the day after holds if it holds in each case
next_cases : (P : Date → Type 0) (x : Date) → (x.day < days_in x.year x.month → P (date x.year x.month (suc x.day))) → (days_in x.year x.month ≤ x.day → x.month < 12 → P (date x.year (suc x.month) 1)) → (days_in x.year x.month ≤ x.day → 12 ≤ x.month → P (date (suc x.year) 1 1)) → P (next x)
next_cases P x a b c = go (dec_lt x.day (days_in x.year x.month)) (dec_lt x.month 12)
  where
    go : Dec (x.day < days_in x.year x.month) → Dec (x.month < 12) → P (next x)
    go (yes h) k = subst P (sym (next_day x h)) (a h)
    go (no h) (yes k) = let l : days_in x.year x.month ≤ x.day = omega (arith, h) in subst P (sym (next_month x l k)) (b l k)
    go (no h) (no k) =
        let l : days_in x.year x.month ≤ x.day = omega (arith, h) in
        let o : 12 ≤ x.month = omega (arith, k) in
        subst P (sym (next_year x l o)) (c l o)

-- ---- from a date's number to the date
in_month : (b y m d : ℕ) → date_of b ≡ date y m 1 → d < days_in y m → date_of (b + d) ≡ date y m (suc d)
unfolding date_of
in_month b y m zero e h = ap date_of (add-zero b) ∙ e
in_month b y m (suc d) e h = ap date_of (add-suc b d) ∙ ap next (in_month b y m d e (omega arith)) ∙ next_day (date y m (suc d)) h

-- the last day of a month, and the day after it
month_end : (b y m : ℕ) → date_of b ≡ date y m 1 → date_of (b + days_in y m) ≡ next (date y m (days_in y m))
unfolding date_of
month_end b y m e =
    let l = days_low y m in
    let d = days_in y m - 1 in
    let k : days_in y m ≡ suc d = omega arith in
    let i : date_of (b + d) ≡ date y m (suc d) = in_month b y m d e (omega arith) in
    ap (λ (n : ℕ). date_of (b + n)) k ∙ ap date_of (add-suc b d) ∙ ap next (i ∙ ap (λ (n : ℕ). date y m n) (sym k))

months : (b y m : ℕ) → date_of b ≡ date y 1 1 → m < 12 → date_of (b + months_before y m) ≡ date y (suc m) 1
unfolding months_before
months b y zero e h = ap date_of (add-zero b) ∙ e
months b y (suc m) e h =
    ap date_of (sym (add_assoc b (months_before y m) (days_in y (suc m))))
    ∙ month_end (b + months_before y m) y (suc m) (months b y m e (omega arith))
    ∙ next_month (date y (suc m) (days_in y (suc m))) (omega arith) h

months_none : (y : ℕ) → months_before y 0 ≡ 0
unfolding months_before
months_none y = refl

months_suc : (y m : ℕ) → months_before y (suc m) ≡ months_before y m + days_in y (suc m)
unfolding months_before
months_suc y m = refl

pub years_suc : (k : ℕ) → years_before (suc k) ≡ years_before k + months_before (2000 + k) 12
unfolding years_before
years_suc k = refl

first_day : date_of 0 ≡ date 2000 1 1
unfolding date_of
first_day = refl

years : (k : ℕ) → date_of (years_before k) ≡ date (2000 + k) 1 1
unfolding years_before
years zero = first_day
years (suc k) =
    let y = 2000 + k in
    let q : years_before k + months_before y 12 ≡ (years_before k + months_before y 11) + days_in y 12 = omega (arith, months_suc y 11) in
    ap date_of q ∙ month_end (years_before k + months_before y 11) y 12 (months (years_before k) y 11 (years k) (omega arith)) ∙ next_year (date y 12 (days_in y 12)) (omega arith) (omega arith) ∙ ap (λ (i : ℕ). date i 1 1) (sym (add-suc 2000 k))

-- a date of 2000 or later is the date of its number
pub valid_number : (x : Date) → Valid x → 2000 ≤ x.year → date_of (days_to x) ≡ x
unfolding days_to
valid_number x v h =
    let y = x.year in
    let m = x.month in
    let d = x.day in
    let l = v.month_from in
    let ey : 2000 + (y - 2000) ≡ y = omega arith in
    let em : suc (m - 1) ≡ m = omega arith in
    let ed : suc (d - 1) ≡ d = omega (arith, v.day_from) in
    let b : date_of (years_before (y - 2000)) ≡ date y 1 1 = years (y - 2000) ∙ ap (λ (k : ℕ). date k 1 1) ey in
    let f : date_of (years_before (y - 2000) + months_before y (m - 1)) ≡ date y m 1 =
    months (years_before (y - 2000)) y (m - 1) b (omega (arith, v.month_to)) ∙ ap (λ (k : ℕ). date y k 1) em in
    in_month (years_before (y - 2000) + months_before y (m - 1)) y m (d - 1) f (omega (arith, v.day_to)) ∙ ap (λ (k : ℕ). date y m k) ed

pub date_number : (x : Date) → is_date x ≡ true → 2000 ≤ x.year → date_of (days_to x) ≡ x
date_number x e h = valid_number x (valid x e) h

-- ---- from a number to its date, and back
pub valid_next : (x : Date) → Valid x → Valid (next x)
valid_next x v =
    next_cases Valid x
    (λ h. record { month_from = v.month_from; month_to = v.month_to; day_from = omega arith; day_to = h })
    (λ h k. record { month_from = omega arith; month_to = k; day_from = omega arith; day_to = omega (arith, days_low x.year (suc x.month)) })
    (λ h k. record { month_from = omega arith; month_to = omega arith; day_from = omega arith; day_to = omega (arith, days_low (suc x.year) 1) })

day_on : (x : Date) → Valid x → days_to (date x.year x.month (suc x.day)) ≡ suc (days_to x)
unfolding days_to
day_on x v = omega (arith, v.day_from)

month_on : (x : Date) → Valid x → days_in x.year x.month ≤ x.day → days_to (date x.year (suc x.month) 1) ≡ suc (days_to x)
unfolding days_to
month_on x v h =
    let y = x.year in
    let m = x.month in
    let e : suc (m - 1) ≡ m = omega (arith, v.month_from) in
    let q : months_before y m ≡ months_before y (m - 1) + days_in y m =
    subst (λ (k : ℕ). months_before y k ≡ months_before y (m - 1) + days_in y k) e (months_suc y (m - 1)) in
    let r : months_before y (suc m - 1) ≡ months_before y m = ap (months_before y) (omega arith) in
    omega (arith, q, r, v.day_to, v.day_from)

year_on : (x : Date) → Valid x → 2000 ≤ x.year → days_in x.year x.month ≤ x.day → 12 ≤ x.month → days_to (date (suc x.year) 1 1) ≡ suc (days_to x)
unfolding days_to
year_on x v l h k =
    let y = x.year in
    let m = x.month in
    let e : suc (y - 2000) ≡ suc y - 2000 = omega arith in
    let f : 2000 + (y - 2000) ≡ y = omega arith in
    let g : m ≡ 12 = omega (arith, v.month_to) in
    let p : years_before (suc y - 2000) ≡ years_before (y - 2000) + months_before y 12 =
    ap years_before (sym e) ∙ years_suc (y - 2000) ∙ ap (λ (i : ℕ). years_before (y - 2000) + months_before i 12) f in
    let q : months_before y (m - 1) ≡ months_before y 11 = ap (λ (i : ℕ). months_before y (i - 1)) g in
    let r : days_in y m ≡ days_in y 12 = ap (days_in y) g in
    omega (arith, p, q, r, months_suc y 11, months_none (suc y), v.day_to, v.day_from)

pub days_next : (x : Date) → Valid x → 2000 ≤ x.year → days_to (next x) ≡ suc (days_to x)
days_next x v l =
    next_cases (λ (z : Date). days_to z ≡ suc (days_to x)) x (λ h. day_on x v) (λ h k. month_on x v h) (λ h k. year_on x v l h k)

year_next : (x : Date) → x.year ≤ (next x).year
year_next x = next_cases (λ (z : Date). x.year ≤ z.year) x (λ h. omega arith) (λ h k. omega arith) (λ h k. omega arith)

-- what is known of the date of a day number
pub valid_of : (n : ℕ) → Valid (date_of n)
unfolding date_of
valid_of zero = record { month_from = omega arith; month_to = omega arith; day_from = omega arith; day_to = omega arith }
valid_of (suc n) = valid_next (date_of n) (valid_of n)

pub year_low : (n : ℕ) → 2000 ≤ (date_of n).year
unfolding date_of
year_low zero = omega arith
year_low (suc n) = omega (arith, year_low n, year_next (date_of n))

pub month_high : (n : ℕ) → (date_of n).month ≤ 12
month_high n = (valid_of n).month_to

pub day_high : (n : ℕ) → (date_of n).day ≤ 31
day_high n = valid_day (date_of n) (valid_of n)

first_number : days_to (date_of 0) ≡ 0
unfolding date_of days_to years_before months_before
first_number = refl

step_number : (n : ℕ) → days_to (date_of (suc n)) ≡ suc (days_to (date_of n))
unfolding date_of
step_number n = days_next (date_of n) (valid_of n) (year_low n)

pub number_date : (n : ℕ) → days_to (date_of n) ≡ n
number_date zero = first_number
number_date (suc n) = step_number n ∙ ap suc (number_date n)

-- ---- the years of the day numbers
years_grow : (a b : ℕ) → years_before a ≤ years_before (a + b)
years_grow a zero = omega (arith, ap years_before (add-zero a))
years_grow a (suc b) = omega (arith, years_grow a b, years_suc (a + b), ap years_before (add-suc a b))

years_180 : years_before 180 ≡ 65744
unfolding years_before months_before
years_180 = refl

pub year_late : (x : Date) → 2180 ≤ x.year → 65744 ≤ days_to x
unfolding days_to
year_late x h =
    let k = x.year - 2180 in
    let e : 180 + k ≡ x.year - 2000 = omega arith in
    omega (arith, years_grow 180 k, years_180, ap years_before e)

pub year_high : (n : ℕ) → n < 65536 → (date_of n).year ≤ 2179
year_high n h = go (dec_lt 2179 (date_of n).year)
  where
    go : Dec (2179 < (date_of n).year) → (date_of n).year ≤ 2179
    go (yes k) = absurd (omega (arith, year_late (date_of n) k, number_date n))
    go (no k) = omega (arith, k)

pub date_valid : (n : ℕ) → n < 65536 → is_date (date_of n) ≡ true
date_valid n h = is_date_lem (date_of n) (valid_of n) (omega (arith, year_high n h))

-- ---- both ways
pub has_day_lem : (x : Date) → is_date x ≡ true → 2000 ≤ x.year → days_to x ≤ 65535 → has_day x ≡ true
unfolding has_day
has_day_lem x e h k = simp (e, le-leb 2000 x.year h, le-leb (days_to x) 65535 k)

pub no_day : (x : Date) → 65535 < days_to x → has_day x ≡ false
unfolding has_day
no_day x h = simp (lt-leb (days_to x) 65535 h, and-false)

pub day_of_date : (n : ℕ) → n < 65536 → day_number_of (date_of n) ≡ answer n
day_of_date n h =
    let e = number_date n in
    simp (has_day_lem (date_of n) (date_valid n h) (year_low n) (omega arith)) (ap answer e)

-- an answer comes of a date that has a day number
answered : (b : Bool) (p n : ℕ) → cond b (answer p) (refusal 21 0) ≡ answer n → (b ≡ true) × (p ≡ n)
answered true p n e = (refl, cc)
answered false p n e = let z : ◌≡◌ {A = ℕ} 0 1 = cc in absurd (omega arith)

pub date_of_day : (x : Date) (n : ℕ) → day_number_of x ≡ answer n → (n < 65536) × (date_of n ≡ x)
unfolding has_day
date_of_day x n e =
    let f = answered (has_day x) (days_to x) n e in
    let p = both_true (is_date x) (leb 2000 x.year && leb (days_to x) 65535) f.0 in
    let q = both_true (leb 2000 x.year) (leb (days_to x) 65535) p.1 in
    (omega (arith, f.1, leb-true (days_to x) 65535 q.1), ap date_of (sym f.1) ∙ date_number x p.0 (leb-true 2000 x.year q.0))

pub one_to_one : (a b : ℕ) → date_of a ≡ date_of b → a ≡ b
one_to_one a b e = sym (number_date a) ∙ ap days_to e ∙ number_date b

pub refused_outside : (x : Date) (p q : ℕ) → day_number_of x ≡ refusal p q → (n : ℕ) → n < 65536 → date_of n ≡ x → ⊥
refused_outside x p q e n h f =
    let d : day_number_of x ≡ answer n = subst (λ (z : Date). day_number_of z ≡ answer n) f (day_of_date n h) in
    let z : ◌≡◌ {A = ℕ} 0 1 = cc in
    omega arith

-- ---- in order
abbrev pub key : Date → ℕ
key x = x.year * 10000 + x.month * 100 + x.day

key_next : (x : Date) → Valid x → key x < key (next x)
key_next x v =
    let d = valid_day x v in
    next_cases (λ (z : Date). key x < key z) x (λ h. omega arith) (λ h k. omega arith) (λ h k. omega (arith, v.month_to))

step_key : (n : ℕ) → key (date_of n) < key (date_of (suc n))
unfolding date_of
step_key n = key_next (date_of n) (valid_of n)

further : (a b : ℕ) → Dec (a ≡ b) → (a < b → key (date_of a) < key (date_of b)) → a < suc b → key (date_of a) < key (date_of (suc b))
further a b (yes e) r h = subst (λ (k : ℕ). key (date_of a) < key (date_of (suc k))) e (step_key a)
further a b (no d) r h = let l = r (omega (arith, d)) in omega (arith, step_key b)

pub ordered : (a b : ℕ) → a < b → key (date_of a) < key (date_of b)
ordered a zero h = absurd (omega arith)
ordered a (suc b) h = further a b (ℕ_discrete a b) (ordered a b) h
