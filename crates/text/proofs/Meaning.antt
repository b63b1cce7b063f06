-- THE TESTS DECIDE THE GRAMMAR, both ways: what specs/Field.antt computes of a field is what specs/Grammar.antt says of its bytes.
-- A run is its spaces, and "each" means each (meter's laws of runs); a test of two parts is taken apart. Assumes nothing.
use mathlib.Core.Path.{◌≡◌, refl, sym, ◌∙◌}
use mathlib.Core.Bool.{Bool, true, false, cond, ◌&&◌, ◌||◌}
use mathlib.Core.Logic.{◌⊎◌, inl, inr, ⊎_elim}
use mathlib.Core.List.{List}
use Prim.Native.Nat.{ℕ, ◌+◌, ◌-◌, ◌≤◌, ◌<◌}
use native.Mathlib.Omega.{arith}
use borrow.Author.Tests.{eq-eqb, ne_eqb, eqb-true, leb-true, ltb-true, lt-ltb, le-leb}
use lib.Dec.{eqb, ltb, leb}
use lib.ListN.{get_or}
use Rattle.calendar.specs.Calendar.{date, days_in, is_date}
use Rattle.meter.specs.General.{within, each, number_of, is_none, is_digits, moment_at, last_second, is_moment, is_general}
use Rattle.meter.proofs.GeneralRuns.{and_true, run_is, run_below, each_in, in_each, inside, outside}
use Rattle.meter.proofs.GeneralCode.{part_small}
use Rattle.text.specs.Field.{is_x, signs, spaces, before, is_number, is_value}
use Rattle.text.specs.Grammar.{In, UndefinedIn, NumberIn, TimeIn, NoTimeIn, ValueIn}
use Rattle.text.specs.declared.Kind.{Kind}
use Rattle.text.specs.declared.Kind.TheVariants.{Text, Unsigned, Count, Signed, Time, LongTime}

within_in : (lo hi x : ℕ) → within lo hi x ≡ true → In lo hi x
within_in lo hi x e = let t = and_true (leb lo x) (leb x hi) e in (leb-true lo x t.0, leb-true x hi t.1)

or_means : {P Q : Type 0} (x y : Bool) → (x ≡ true → P) → (y ≡ true → Q) → x || y ≡ true → P ⊎ Q
or_means true y p q e = inl (p refl)
or_means false y p q e = inr (q e)

means_or : {P Q : Type 0} (x y : Bool) → (P → x ≡ true) → (Q → y ≡ true) → P ⊎ Q → x || y ≡ true
means_or x y p q (inl u) = rw (p u)
means_or true y p q (inr u) = refl
means_or false y p q (inr u) = q u

swap : {P Q : Type 0} → P ⊎ Q → Q ⊎ P
swap (inl p) = inr p
swap (inr q) = inl q

-- ---- numbers
sign_means : (signed : Bool) (b : ℕ) → (signs signed b ≡ 0) ⊎ ((signs signed b ≡ 1) × (signed ≡ true) × ((b ≡ 43) ⊎ (b ≡ 45)))
sign_means false b = inl refl
sign_means true b = go (eqb b 43) refl (eqb b 45) refl
  where
    go : (x : Bool) → eqb b 43 ≡ x → (y : Bool) → eqb b 45 ≡ y → (◌≡◌ {A = ℕ} (cond (x || y) 1 0) 0) ⊎ ((◌≡◌ {A = ℕ} (cond (x || y) 1 0) 1) × (true ≡ true) × ((b ≡ 43) ⊎ (b ≡ 45)))
    go true e y f = inr (refl, refl, inl (eqb-true b 43 e))
    go false e true f = inr (refl, refl, inr (eqb-true b 45 f))
    go false e false f = inl refl

no_sign : (signed : Bool) (b : ℕ) → In 48 57 b → signs signed b ≡ 0
no_sign false b h = refl
no_sign true b h = rw (ne_eqb b 43 (λ e. omega arith), ne_eqb b 45 (λ e. omega arith))

one_sign : (signed : Bool) (b : ℕ) → signed ≡ true → (b ≡ 43) ⊎ (b ≡ 45) → signs signed b ≡ 1
one_sign signed b s (inl e) = rw (s, eq-eqb b 43 e)
one_sign signed b s (inr e) = let d : b ≡ 43 → ⊥ = λ f. omega arith in rw (s, ne_eqb b 43 d, eq-eqb b 45 e)

module _ (signed : Bool) (a : List ℕ) (i w : ℕ) where
  pub number_means : is_number signed a i w ≡ true → NumberIn signed a i w
  unfolding is_number
  number_means e =
      let m = before signed a i w in
      let t = and_true (ltb m w) (each 48 57 a (i + m) (w - m)) (and_true (ltb (spaces a i w) w) _ e).1 in
      let l = ltb-true m w t.0 in
      record {
        spaces = spaces a i w;
        sign = signs signed (get_or a (i + spaces a i w) 0);
        some = l;
        blank = λ j h. let b = run_below 32 32 a i w j h in omega arith;
        either = sign_means signed (get_or a (i + spaces a i w) 0);
        digits = λ j g h. let q : i + m + (j - m) ≡ i + j = omega arith in rw q at (each_in 48 57 a (i + m) (w - m) t.1 (j - m) (omega arith));
      }

  module _ (g : NumberIn signed a i w) where
    first : (g.sign ≡ 0) ⊎ ((g.sign ≡ 1) × (signed ≡ true) × ((get_or a (i + g.spaces) 0 ≡ 43) ⊎ (get_or a (i + g.spaces) 0 ≡ 45))) → 32 < get_or a (i + g.spaces) 0
    first (inl z) = omega (arith, g.digits g.spaces (omega arith) (omega (arith, g.some)))
    first (inr (o, t, b)) = ⊎_elim (λ e. omega arith) (λ e. omega arith) b

    sign_is : (g.sign ≡ 0) ⊎ ((g.sign ≡ 1) × (signed ≡ true) × ((get_or a (i + g.spaces) 0 ≡ 43) ⊎ (get_or a (i + g.spaces) 0 ≡ 45))) → signs signed (get_or a (i + g.spaces) 0) ≡ g.sign
    sign_is (inl z) = no_sign signed _ (g.digits g.spaces (omega arith) (omega (arith, g.some))) ∙ sym z
    sign_is (inr (o, t, b)) = one_sign signed _ t b ∙ sym o

    -- the spaces of the grammar are the run of spaces
    pub spaces_are : spaces a i w ≡ g.spaces
    spaces_are =
        run_is 32 32 a i w g.spaces (omega (arith, g.some)) (λ j h. inside 32 32 (get_or a (i + j) 0) (omega (arith, g.blank j h)) (omega (arith, g.blank j h)))
        (λ _. outside 32 32 (get_or a (i + g.spaces) 0) (λ _. first g.either))

    pub means_number : is_number signed a i w ≡ true
    unfolding is_number
    means_number =
        let m = g.spaces + g.sign in
        let l : g.spaces < w = omega (arith, g.some) in
        let d : each 48 57 a (i + m) (w - m) ≡ true = in_each 48 57 a (i + m) (w - m) (λ j h. let q : i + (m + j) ≡ i + m + j = omega arith in rw q at (g.digits (m + j) (omega arith) (omega arith))) in
        rw (spaces_are, lt-ltb g.spaces w l, sign_is g.either, lt-ltb m w g.some) d

module _ (a : List ℕ) (i w : ℕ) where
  pub x_means : is_x a i w ≡ true → UndefinedIn a i w
  unfolding is_x
  x_means e = let t = and_true (ltb 0 w) _ e in (ltb-true 0 w t.0, each_in 120 120 a i w t.1)

  pub means_x : UndefinedIn a i w → is_x a i w ≡ true
  unfolding is_x
  means_x g = rw (lt-ltb 0 w g.0) (in_each 120 120 a i w g.1)

-- ---- times of n digits, 14 or 17
module _ (n : ℕ) (a : List ℕ) (i : ℕ) where
  time_means : is_digits n a i && is_moment (moment_at n a i) ≡ true → TimeIn n a i
  unfolding is_digits moment_at is_moment is_date
  time_means e =
      let u = and_true (is_digits n a i) _ e in
      let v = and_true (each 48 57 a i n) _ u.0 in
      let x = and_true (is_date (date (number_of a i 4) (number_of a (i + 4) 2) (number_of a (i + 6) 2))) _ u.1 in
      let c = and_true (leb (number_of a i 4) 9999) _ x.0 in
      let m = and_true (within 1 12 (number_of a (i + 4) 2)) _ c.1 in
      let y = and_true (leb (number_of a (i + 8) 2) 23) _ x.1 in
      let z = and_true (leb (number_of a (i + 10) 2) 59) _ y.1 in
      let s = and_true (leb (number_of a (i + 12) 2) (last_second (date (number_of a i 4) (number_of a (i + 4) 2) (number_of a (i + 6) 2)) (number_of a (i + 8) 2) (number_of a (i + 10) 2))) _ z.1 in
      record {
        digits = each_in 48 57 a i n v.0;
        zed = eqb-true _ _ v.1;
        month = within_in 1 12 (number_of a (i + 4) 2) m.0;
        day = within_in 1 (days_in (number_of a i 4) (number_of a (i + 4) 2)) (number_of a (i + 6) 2) m.1;
        hour = leb-true _ _ y.0;
        minute = leb-true _ _ z.0;
        second = leb-true _ _ s.0;
      }

  means_digits : TimeIn n a i → is_digits n a i ≡ true
  unfolding is_digits
  means_digits t = rw (in_each 48 57 a i n t.digits, eq-eqb (get_or a (i + n) 0) 90 t.zed)

  means_time : 14 ≤ n → n ≤ 17 → TimeIn n a i → is_digits n a i && is_moment (moment_at n a i) ≡ true
  unfolding moment_at is_moment is_date
  means_time l h t =
      let d = means_digits t in
      let y : number_of a i 4 ≤ 9999 = omega (arith, part_small n a i i 4 4 d (omega arith) (omega arith) (omega arith)) in
      let k : number_of a (i + 14) (n - 14) ≤ 999 = omega (arith, part_small n a i (i + 14) (n - 14) 3 d (omega arith) (omega arith) (omega arith)) in
      rw (
        d,
        le-leb (number_of a i 4) 9999 y,
        inside 1 12 (number_of a (i + 4) 2) t.month.0 t.month.1,
        inside 1 (days_in (number_of a i 4) (number_of a (i + 4) 2)) (number_of a (i + 6) 2) t.day.0 t.day.1,
        le-leb (number_of a (i + 8) 2) 23 t.hour,
        le-leb (number_of a (i + 10) 2) 59 t.minute,
        le-leb (number_of a (i + 12) 2) (last_second (date (number_of a i 4) (number_of a (i + 4) 2) (number_of a (i + 6) 2)) (number_of a (i + 8) 2) (number_of a (i + 10) 2)) t.second,
        le-leb (number_of a (i + 14) (n - 14)) 999 k,
      )

  none_means : is_none n a i ≡ true → NoTimeIn n a i
  unfolding is_none
  none_means e =
      let u = and_true (each 120 120 a i n) _ e in
      (each_in 120 120 a i n u.0, or_means (eqb (get_or a (i + n) 0) 120) _ (eqb-true _ _) (eqb-true _ _) u.1)

  means_none : NoTimeIn n a i → is_none n a i ≡ true
  unfolding is_none
  means_none t = rw (in_each 120 120 a i n t.0) (means_or (eqb (get_or a (i + n) 0) 120) _ (eq-eqb _ _) (eq-eqb _ _) t.1)

  pub general_means : is_general n a i ≡ true → TimeIn n a i ⊎ NoTimeIn n a i
  general_means e = swap (or_means (is_none n a i) _ none_means time_means e)

  pub means_general : 14 ≤ n → n ≤ 17 → TimeIn n a i ⊎ NoTimeIn n a i → is_general n a i ≡ true
  means_general l h t = means_or (is_none n a i) _ means_none (means_time l h) (swap t)

-- THE TEST DECIDES THE RULE
pub value_means : (d : Kind) (a : List ℕ) (i w : ℕ) → is_value d a i w ≡ true → ValueIn d a i w
unfolding is_value
value_means Text a i w e = each_in 32 126 a i w e
value_means Unsigned a i w e = or_means (is_number false a i w) _ (number_means false a i w) (x_means a i w) e
value_means Count a i w e = number_means false a i w e
value_means Signed a i w e = or_means (is_number true a i w) _ (number_means true a i w) (x_means a i w) e
value_means Time a i w e = let t = and_true (eqb w 15) _ e in (eqb-true w 15 t.0, general_means 14 a i t.1)
value_means LongTime a i w e = let t = and_true (eqb w 18) _ e in (eqb-true w 18 t.0, general_means 17 a i t.1)

pub means_value : (d : Kind) (a : List ℕ) (i w : ℕ) → ValueIn d a i w → is_value d a i w ≡ true
unfolding is_value
means_value Text a i w g = in_each 32 126 a i w g
means_value Unsigned a i w g = means_or (is_number false a i w) _ (means_number false a i w) (means_x a i w) g
means_value Count a i w g = means_number false a i w g
means_value Signed a i w g = means_or (is_number true a i w) _ (means_number true a i w) (means_x a i w) g
means_value Time a i w g = rw (eq-eqb w 15 g.0) (means_general 14 a i (omega arith) (omega arith) g.1)
means_value LongTime a i w g = rw (eq-eqb w 18 g.0) (means_general 17 a i (omega arith) (omega arith) g.1)
