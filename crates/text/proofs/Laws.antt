-- The ways out of the code, at its own names: each local is a variable with the equation that its call ensures, and the tests that led
-- there decide the definition's conditions. By rewriting. Assumes nothing.
use mathlib.Core.Path.{◌≡◌, refl, sym, ap, ◌∙◌, subst}
use mathlib.Core.Bool.{Bool, true, false, cond, ◌&&◌, true≢false}
use mathlib.Core.List.{List}
use Prim.Native.Nat.{ℕ, zero, suc, ◌+◌, ◌-◌, ◌/◌, ◌%◌, ◌^◌, ◌≤◌, ◌<◌}
use native.Mathlib.Decide.{dec_lt}
use native.Mathlib.Omega.{arith}
use borrow.Author.Tests.{lt-leb, le-leb, le-ltb, lt-ltb, ltb-true, eq-eqb, ne_eqb, eqb-true}
use lib.Dec.{eqb, leb, ltb}
use lib.IntN.{ℤ, pos, negsuc, nat_abs, neg_ℤ, ◌-ℤ◌}
use lib.ListN.{length, get_or, set}
use lib.Signed.{lt_z}
use mir.Syntax.{w64}
use mir.Val.{SFits, to_z}
use mir.ValLaws.{to_z_pos}
use Rattle.calendar.specs.Said.{answer, refusal, refused}
use Rattle.calendar.specs.declared.Refusal.{Refusal}
use Rattle.meter.specs.Lent.{inside, writes, wrote}
use Rattle.meter.specs.General.{digits_of, run_of, number_of, is_general, general_read_at}
use Rattle.std.specs.declared.option.Option.TheVariants.{Some, None}
use Rattle.std.specs.declared.option.Option.{Option}
use Rattle.meter.specs.declared.general.Moment.{Moment}
use Rattle.meter.proofs.GeneralRuns.{and_true}
use Rattle.text.specs.Field.{is_x, signs, spaces, is_number, integer_of, is_value, number_read_at}
use Rattle.text.specs.Writing.{below, spelled, fits_number, mark, still, put_rest, put_whole, fits_text}
use Rattle.text.specs.declared.Kind.{Kind}

-- ---- is_x
module _ (a : List ℕ) (i w : ℕ) where
  pub x_empty : w ≡ 0 → false ≡ is_x a i w
  unfolding is_x
  x_empty e = rw (le-ltb 0 w (omega arith))

  pub x_run : (w ≡ 0 → ⊥) → (r : ℕ) → r ≡ run_of 120 120 a i w → eqb r w ≡ is_x a i w
  unfolding is_x
  x_run d r e = let h : 0 < w = omega (arith, d) in rw (lt-ltb 0 w h, ← e)

-- ---- is_number: b spaces, g bytes of a sign
module _ (signed : Bool) (a : List ℕ) (i w b : ℕ) (eb : b ≡ spaces a i w) where
  pub number_blank : w ≤ b → false ≡ is_number signed a i w
  unfolding is_number
  number_blank h = rw (← eb, le-ltb b w h)

  module _ (some : b < w) (g : ℕ) (eg : g ≡ signs signed (get_or a (i + b) 0)) where
    pub number_short : w ≤ b + g → false ≡ is_number signed a i w
    unfolding is_number
    number_short h = rw (← eb, lt-ltb b w some, ← eg, le-ltb (b + g) w h)

    pub number_rest : b + g < w → (r : ℕ) → r ≡ run_of 48 57 a (i + (b + g)) (w - (b + g)) → eqb r (w - (b + g)) ≡ is_number signed a i w
    unfolding is_number
    number_rest h r e = rw (← eb, lt-ltb b w some, ← eg, lt-ltb (b + g) w h, ← e)

-- not all of a number is spaces
pub some_left : (signed : Bool) (a : List ℕ) (i w : ℕ) → is_number signed a i w ≡ true → spaces a i w < w
unfolding is_number
some_left signed a i w e = ltb-true (spaces a i w) w (and_true (ltb (spaces a i w) w) _ e).0

-- ---- is_time
answered : {A : Type 0} (b : Bool) (x y : A) → answer x ≡ cond b (answer y) (refusal 21 0) → true ≡ b
answered true x y e = refl
answered false x y e = let z : ◌≡◌ {A = ℕ} 0 1 = cc in absurd (omega arith)

no_answer : {A : Type 0} (b : Bool) (r : Refusal) (y : A) → refused r ≡ cond b (answer y) (refusal 21 0) → false ≡ b
no_answer true r y e = let z : ◌≡◌ {A = ℕ} 0 1 = cc in absurd (omega arith)
no_answer false r y e = refl

module _ (long : Bool) (a : List ℕ) (i w due : ℕ) (e : due ≡ digits_of long + 1) where
  pub time_wide : (w ≡ due → ⊥) → false ≡ eqb w (digits_of long + 1) && is_general (digits_of long) a i
  time_wide d = rw (← e, ne_eqb w due d)

  module _ (same : w ≡ due) (h : i + w ≤ length a) where
    whole : i + (digits_of long + 1) ≤ length a
    whole = omega arith

    pub time_read : (g : Option Moment) → answer g ≡ general_read_at long a i → true ≡ eqb w (digits_of long + 1) && is_general (digits_of long) a i
    time_read g r =
        rw (eq-eqb w (digits_of long + 1) (same ∙ e))
        (answered (is_general (digits_of long) a i) g _ (rw (le-leb (i + (digits_of long + 1)) (length a) whole) at r))

    pub time_refused : (x : Refusal) → refused x ≡ general_read_at long a i → false ≡ eqb w (digits_of long + 1) && is_general (digits_of long) a i
    time_refused x r =
        rw (eq-eqb w (digits_of long + 1) (same ∙ e))
        (no_answer (is_general (digits_of long) a i) x _ (rw (le-leb (i + (digits_of long + 1)) (length a) whole) at r))

-- ---- is_value, once the kind is known
pub value_of : (k l : Kind) (a : List ℕ) (i w : ℕ) (r : Bool) → leb (i + w) (length a) ≡ true → k ≡ l → r ≡ is_value l a i w → r ≡ inside a i w && is_value k a i w
value_of k l a i w r h e f = rw (h, e) f

-- ---- integer: m is the number without its sign, b the spaces
no_minus : (m : ℕ) → pos 0 -ℤ pos m ≡ neg_ℤ (pos m)
no_minus zero = refl
no_minus (suc m) = let e : suc m - 1 ≡ m = omega arith in simp (lt-ltb 0 (suc m) (omega arith)) (ap negsuc e)

pub minus_is : (m : ℕ) → m < 2 ^ 63 → pos 0 -ℤ to_z w64 m ≡ neg_ℤ (pos m)
minus_is m h = ap (λ (z : ℤ). pos 0 -ℤ z) (to_z_pos w64 m h) ∙ no_minus m

minus_small : (m : ℕ) → m < 2 ^ 63 → SFits w64 (neg_ℤ (pos m))
minus_small zero h = record { sfits = h }
minus_small (suc m) h = record { sfits = omega arith }

pub minus_fits : (m : ℕ) → m < 2 ^ 63 → SFits w64 (pos 0 -ℤ to_z w64 m)
minus_fits m h = subst (λ (z : ℤ). SFits w64 z) (sym (minus_is m h)) (minus_small m h)

module _ (a : List ℕ) (i w m b : ℕ) (em : m ≡ number_of a i w) (eb : b ≡ spaces a i w) where
  pub integer_minus : get_or a (i + b) 0 ≡ 45 → neg_ℤ (pos m) ≡ integer_of a i w
  integer_minus e = rw (← em, ← eb, eq-eqb (get_or a (i + b) 0) 45 e)

  pub integer_plain : (get_or a (i + b) 0 ≡ 45 → ⊥) → pos m ≡ integer_of a i w
  integer_plain d = rw (← em, ← eb, ne_eqb (get_or a (i + b) 0) 45 d)

-- ---- read_number
module _ (signed : Bool) (a : List ℕ) (i w : ℕ) (h : leb (i + w) (length a) ≡ true) where
  pub read_wide : 17 < w → refusal 21 0 ≡ number_read_at signed w a i
  read_wide l = rw (h, lt-leb w 17 l)

  module _ (l : w ≤ 17) where
    pub read_x : is_x a i w ≡ true → answer None ≡ number_read_at signed w a i
    read_x x = rw (h, le-leb w 17 l, x)

    pub read_wrong : is_x a i w ≡ false → is_number signed a i w ≡ false → refusal 21 0 ≡ number_read_at signed w a i
    read_wrong x n = rw (h, le-leb w 17 l, x, n)

    pub read_whole : is_x a i w ≡ false → is_number signed a i w ≡ true → (z : ℤ) → z ≡ integer_of a i w → answer (Some z) ≡ number_read_at signed w a i
    read_whole x n z e = rw (h, le-leb w 17 l, x, n, e)

-- ---- spells
pub below_is : (z : ℤ) → lt_z z (pos 0) ≡ below z
below_is (pos n) = le-ltb n 0 (omega arith)
below_is (negsuc n) = refl

pub spelled_above : (signed : Bool) (w : ℕ) (z : ℤ) → lt_z z (pos 0) ≡ false → ltb (nat_abs z) (10 ^ w) ≡ spelled signed w z
spelled_above signed w (pos n) t = refl
spelled_above signed w (negsuc n) t = absurd (true≢false t)

pub spelled_unsigned : (w : ℕ) (z : ℤ) → lt_z z (pos 0) ≡ true → false ≡ spelled false w z
spelled_unsigned w (pos n) t = absurd (omega (arith, ltb-true n 0 t))
spelled_unsigned w (negsuc n) t = refl

-- one byte has no room for a minus and a digit
one_byte : (w n : ℕ) → 0 < w → Dec (1 < w) → ltb (suc n) (10 ^ (w - 1)) ≡ ltb 1 w && ltb (suc n) (10 ^ (w - 1))
one_byte w n h (yes l) = rw (lt-ltb 1 w l)
one_byte w n h (no l) =
    let e : w - 1 ≡ 0 = omega (arith, l) in
    rw (le-ltb 1 w (omega (arith, l)), e) (le-ltb (suc n) 1 (omega arith))

pub spelled_below : (w : ℕ) (z : ℤ) → 0 < w → lt_z z (pos 0) ≡ true → ltb (nat_abs z) (10 ^ (w - 1)) ≡ spelled true w z
spelled_below w (pos n) h t = absurd (omega (arith, ltb-true n 0 t))
spelled_below w (negsuc n) h t = one_byte w n h (dec_lt 1 w)

-- ---- fits_number
pub fits_wide : (signed : Bool) (w : ℕ) (x : Option ℤ) → ltb 0 w && leb w 17 ≡ false → false ≡ fits_number signed w x
fits_wide signed w None e = sym e
fits_wide signed w (Some z) e = rw e

module _ (signed : Bool) (w : ℕ) (x : Option ℤ) (some : 0 < w) (l : w ≤ 17) where
  pub fits_undefined : x ≡ None → true ≡ fits_number signed w x
  fits_undefined e = rw (e, lt-ltb 0 w some, le-leb w 17 l)

  pub fits_whole : (z : ℤ) → x ≡ Some z → spelled signed w z ≡ fits_number signed w x
  fits_whole z e = rw (e, lt-ltb 0 w some, le-leb w 17 l)

pub fits_some : (signed : Bool) (w : ℕ) (x : Option ℤ) → fits_number signed w x ≡ true → 0 < w
fits_some signed w None e = ltb-true 0 w (and_true (ltb 0 w) _ e).0
fits_some signed w (Some z) e = ltb-true 0 w (and_true (ltb 0 w) _ (and_true (ltb 0 w && leb w 17) _ e).0).0

-- ---- the writers: f is what was found of `right`
module _ (room : List ℕ) (w : ℕ) (right f : Bool) (ef : f ≡ right) (new : List ℕ) where
  pub write_wrong : f ≡ false → (refusal 21 0 ≡ writes room w right) × (room ≡ wrote room w right new)
  write_wrong h = (rw (← ef, h), rw (← ef, h))

  pub write_small : f ≡ true → length room < w → (refusal 18 w ≡ writes room w right) × (room ≡ wrote room w right new)
  write_small h l = (rw (← ef, h, lt-leb w (length room) l), rw (← ef, h, lt-leb w (length room) l))

  pub write_done : f ≡ true → w ≤ length room → (b : List ℕ) → b ≡ new → (answer w ≡ writes room w right) × (b ≡ wrote room w right new)
  write_done h l b e = (rw (← ef, h, le-leb w (length room) l), rw (← ef, h, le-leb w (length room) l) e)

pub whole_put : (a : List ℕ) (w : ℕ) (z : ℤ) (s : ℕ) (m : Bool) (b : List ℕ) → s ≡ nat_abs z → m ≡ below z → b ≡ put_rest (set a (w - 1) (48 + s % 10)) (w - 1) m (s / 10) → b ≡ put_whole a w z
whole_put a w z s m b es em e = rw (← es, ← em) e

pub text_wide : (w : ℕ) (t : List ℕ) → fits_text w t ≡ true → length t ≡ w
text_wide w t e = eqb-true (length t) w (and_true (eqb (length t) w) _ e).0

-- ---- put_rest: what a turn of the loop stores
pub rest_step : (a : List ℕ) (n : ℕ) (minus : Bool) (v : ℕ) → 0 < n → put_rest a n minus v ≡ put_rest (set a (n - 1) (mark minus v)) (n - 1) (still minus v) (v / 10)
unfolding put_rest
rest_step a zero minus v h = absurd (omega arith)
rest_step a (suc k) minus v h = let e : suc k - 1 ≡ k = omega arith in rw e

pub rest_none : (a : List ℕ) (n : ℕ) (minus : Bool) (v : ℕ) → n ≡ 0 → put_rest a n minus v ≡ a
unfolding put_rest
rest_none a zero minus v h = refl
rest_none a (suc k) minus v h = absurd (omega arith)
