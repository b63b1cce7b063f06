-- The grammar of field values, as 01 says it under "Kinds", and the value of a number. Decided by specs/Field.antt: the two agree both ways
-- (proofs/Meaning.antt, proofs/Value.antt).
-- Assumes nothing.
use Rattle.std.specs.Prelude.{ℕ, suc, ◌+◌, ◌*◌, ◌-◌, ◌≤◌, ◌<◌, ◌≡◌, Bool, true, false, List, ◌⊎◌, ℤ, pos, neg_ℤ, get_or}
use Rattle.calendar.specs.Calendar.{date, days_in}
use Rattle.meter.specs.General.{number_of, last_second}
use Rattle.text.specs.declared.Kind.{Kind}
use Rattle.text.specs.declared.Kind.TheVariants.{Text, Unsigned, Count, Signed, Time, LongTime}

abbrev pub In : ℕ → ℕ → ℕ → Type 0
In lo hi x = (lo ≤ x) × (x ≤ hi)

-- each of the n bytes from i on is lo to hi
abbrev pub Each : ℕ → ℕ → List ℕ → ℕ → ℕ → Type 0
Each lo hi a i n = (j : ℕ) → j < n → In lo hi (get_or a (i + j) 0)

-- at least one byte, and each is x
abbrev pub UndefinedIn : List ℕ → ℕ → ℕ → Type 0
UndefinedIn a i w = (0 < w) × Each 120 120 a i w

-- spaces (or none), one sign or none (signed only), then one or more digits to the field's end
pub record NumberIn (signed : Bool) (a : List ℕ) (i w : ℕ) : Type 0 where
  pub spaces : ℕ
  pub sign : ℕ
  pub some : spaces + sign < w
  pub blank : (j : ℕ) → j < spaces → get_or a (i + j) 0 ≡ 32
  pub either : (sign ≡ 0) ⊎ ((sign ≡ 1) × (signed ≡ true) × ((get_or a (i + spaces) 0 ≡ 43) ⊎ (get_or a (i + spaces) 0 ≡ 45)))
  pub digits : (j : ℕ) → spaces + sign ≤ j → j < w → In 48 57 (get_or a (i + j) 0)

-- the n bytes from i on are the digits of v: each counts ten times the one after it
pub data DigitsOf (a : List ℕ) (i : ℕ) : ℕ → ℕ → Type 0 where
  none : DigitsOf a i 0 0
  digit : {n v d : ℕ} → DigitsOf a i n v → d ≤ 9 → get_or a (i + n) 0 ≡ 48 + d → DigitsOf a i (suc n) (v * 10 + d)

-- a number, and its value z: what its digits say, below 0 where its sign is a minus
pub record NumberOf (signed : Bool) (a : List ℕ) (i w : ℕ) (z : ℤ) : Type 0 where
  pub form : NumberIn signed a i w
  pub size : ℕ
  pub digits : DigitsOf a (i + (form.spaces + form.sign)) (w - (form.spaces + form.sign)) size
  pub minus : get_or a (i + form.spaces) 0 ≡ 45 → z ≡ neg_ℤ (pos size)
  pub plain : (get_or a (i + form.spaces) 0 ≡ 45 → ⊥) → z ≡ pos size

-- n digits, 14 or 17, and Z: a date of the Gregorian calendar, years 0000 to 9999, the hour, the minute, the second, which is 60 only in a leap
-- second, and with 17 the millisecond
pub record TimeIn (n : ℕ) (a : List ℕ) (i : ℕ) : Type 0 where
  pub digits : Each 48 57 a i n
  pub zed : get_or a (i + n) 0 ≡ 90
  pub month : In 1 12 (number_of a (i + 4) 2)
  pub day : In 1 (days_in (number_of a i 4) (number_of a (i + 4) 2)) (number_of a (i + 6) 2)
  pub hour : number_of a (i + 8) 2 ≤ 23
  pub minute : number_of a (i + 10) 2 ≤ 59
  pub second : number_of a (i + 12) 2 ≤ last_second (date (number_of a i 4) (number_of a (i + 4) 2) (number_of a (i + 6) 2)) (number_of a (i + 8) 2) (number_of a (i + 10) 2)

-- n times x, and then x (01) or Z (002)
abbrev pub NoTimeIn : ℕ → List ℕ → ℕ → Type 0
NoTimeIn n a i = Each 120 120 a i n × ((get_or a (i + n) 0 ≡ 120) ⊎ (get_or a (i + n) 0 ≡ 90))

-- THE RULE: the w bytes of a from i on are a value of the kind
abbrev pub ValueIn : Kind → List ℕ → ℕ → ℕ → Type 0
ValueIn Text a i w = Each 32 126 a i w
ValueIn Unsigned a i w = NumberIn false a i w ⊎ UndefinedIn a i w
ValueIn Count a i w = NumberIn false a i w
ValueIn Signed a i w = NumberIn true a i w ⊎ UndefinedIn a i w
ValueIn Time a i w = (w ≡ 15) × (TimeIn 14 a i ⊎ NoTimeIn 14 a i)
ValueIn LongTime a i w = (w ≡ 18) × (TimeIn 17 a i ⊎ NoTimeIn 17 a i)
