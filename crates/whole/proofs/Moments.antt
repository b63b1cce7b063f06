-- A TIME THAT ENDS IN Z IS WRITTEN BACK AS IT STOOD, defined or not, and what the writer writes ends in Z. Its digits are those of its numbers. Assumes nothing.
use mathlib.Core.Path.{◌≡◌, refl, sym, ap, ◌∙◌}
use mathlib.Core.Bool.{Bool, true, false, true≢false, cond, ◌&&◌, ◌||◌}
use mathlib.Core.Logic.{◌⊎◌, inl, inr}
use mathlib.Core.List.{List}
use Prim.Native.Nat.{ℕ, ◌+◌, ◌-◌, ◌*◌, ◌^◌, ◌≤◌, ◌<◌}
use native.Mathlib.Decide.{dec_lt}
use native.Mathlib.Omega.{arith}
use borrow.Author.Tests.{eqb-true}
use lib.Dec.{eqb}
use lib.ListN.{length, get_or}
use lib.Seq.{get_or-set_same, get_or-set_other}
use Rattle.meter.specs.General.{digits_of, each, number_of, is_none, is_digits, moment_at, is_moment, is_general, general_at, put_moment, put_x, put_none, put_general, fits_general}
use Rattle.meter.specs.declared.general.Moment.{Moment}
use Rattle.std.specs.declared.option.Option.TheVariants.{Some, None}
use Rattle.std.specs.declared.option.Option.{Option}
use Rattle.meter.proofs.GeneralRuns.{and_true, Digits, each_in, number_join, digits_number, digits_same, whole_of, whole_is}
use Rattle.meter.proofs.GeneralWrite.{moment_bounds, moment_back, moment_digits, moment_zed, width_low, x_are, x_length}

-- ---- ONE NUMBER OF ALL DIGITS
abbrev short_of : Moment → ℕ
short_of t = ((((t.date.year * 100 + t.date.month) * 100 + t.date.day) * 100 + t.hour) * 100 + t.minute) * 100 + t.second

short_is : (a : List ℕ) (i : ℕ) → number_of a i 14 ≡ short_of (moment_at 14 a i)
unfolding moment_at
short_is a i = omega (arith, number_join a i 12 2, number_join a i 10 2, number_join a i 8 2, number_join a i 6 2, number_join a i 4 2)

all_digits : (long : Bool) (a b : List ℕ) (i k : ℕ) → moment_at (digits_of long) a i ≡ moment_at (digits_of long) b k → number_of a i (digits_of long) ≡ number_of b k (digits_of long)
all_digits true a b i k e = whole_is a i ∙ ap whole_of e ∙ sym (whole_is b k)
all_digits false a b i k e = short_is a i ∙ ap short_of e ∙ sym (short_is b k)

short_milli : (long : Bool) (a : List ℕ) (i : ℕ) → Digits a i (digits_of long) → long || eqb (moment_at (digits_of long) a i).milli 0 ≡ true
unfolding moment_at number_of
short_milli true a i f = refl
short_milli false a i f = refl

-- ---- what is written ends in Z
pub general_zed : (n : ℕ) (r : List ℕ) (t : Option Moment) → 14 ≤ n → n < length r → get_or (put_general n r t) n 0 ≡ 90
general_zed n r None l h = get_or-set_same (put_x r n) n 90 0 (omega (arith, x_length r n))
general_zed n r (Some t) l h = moment_zed n r t l h

-- ---- WHAT IS READ
module _ (long : Bool) (a : List ℕ) (i : ℕ) where
  low : 14 ≤ digits_of long
  low = width_low long

  milli_small : Digits a i (digits_of long) → (moment_at (digits_of long) a i).milli < 10 ^ (digits_of long - 14)
  unfolding moment_at
  milli_small f = digits_number a (i + 14) (digits_of long - 14) (λ j h. let e : i + (14 + j) ≡ i + 14 + j = omega arith in rw e at (f (14 + j) (omega (arith, low))))

  some : is_digits (digits_of long) a i ≡ true → Digits a i (digits_of long) × (get_or a (i + digits_of long) 0 ≡ 90)
  unfolding is_digits
  some e = let t = and_true (each 48 57 a i (digits_of long)) _ e in (each_in 48 57 a i (digits_of long) t.0, eqb-true _ _ t.1)

  none : is_none (digits_of long) a i ≡ true → (j : ℕ) → j < digits_of long → get_or a (i + j) 0 ≡ 120
  unfolding is_none
  none e j h = let x = each_in 120 120 a i (digits_of long) (and_true (each 120 120 a i (digits_of long)) _ e).0 j h in omega arith

  -- a time that is a value can be written
  pub general_fits : is_general (digits_of long) a i ≡ true → fits_general long (general_at (digits_of long) a i) ≡ true
  general_fits e = go (is_none (digits_of long) a i) refl e
    where
      go : (b : Bool) → is_none (digits_of long) a i ≡ b → b || (is_digits (digits_of long) a i && is_moment (moment_at (digits_of long) a i)) ≡ true → fits_general long (cond b None (Some (moment_at (digits_of long) a i))) ≡ true
      go true q e = refl
      go false q e =
          let t = and_true (is_digits (digits_of long) a i) _ e in
          rw t.1 (short_milli long a i (some t.0).0)

  -- THE LAW
  module _ (r : List ℕ) (room : digits_of long < length r) (zed : get_or a (i + digits_of long) 0 ≡ 90) where
    none_again : is_none (digits_of long) a i ≡ true → (j : ℕ) → j ≤ digits_of long → Dec (j < digits_of long) → get_or (put_none (digits_of long) r) j 0 ≡ get_or a (i + j) 0
    none_again e j h (yes l) = get_or-set_other (put_x r (digits_of long)) (digits_of long) j 90 0 (λ q. omega arith) ∙ x_are r (digits_of long) (omega arith) j l ∙ sym (none e j l)
    none_again e j h (no l) =
        let q : j ≡ digits_of long = omega (arith, l) in
        rw q (get_or-set_same (put_x r (digits_of long)) (digits_of long) 90 0 (omega (arith, x_length r (digits_of long))) ∙ sym zed)

    some_again : is_digits (digits_of long) a i ≡ true → is_moment (moment_at (digits_of long) a i) ≡ true → (j : ℕ) → j ≤ digits_of long → Dec (j < digits_of long) → get_or (put_moment (digits_of long) r (moment_at (digits_of long) a i)) j 0 ≡ get_or a (i + j) 0
    some_again d m j h (yes l) =
        let t = moment_at (digits_of long) a i in
        let f = (some d).0 in
        let b = moment_back (digits_of long) r t low room (moment_bounds t m) (milli_small f) in
        let z : 0 + j ≡ j = omega arith in
        rw z at (digits_same (put_moment (digits_of long) r t) a 0 i (digits_of long) (moment_digits (digits_of long) r t low room) f (all_digits long (put_moment (digits_of long) r t) a 0 i b) j l)
    some_again d m j h (no l) =
        let t = moment_at (digits_of long) a i in
        let q : digits_of long ≡ j = omega (arith, l) in
        let e : get_or (put_moment (digits_of long) r t) (digits_of long) 0 ≡ get_or a (i + digits_of long) 0 = moment_zed (digits_of long) r t low room ∙ sym zed in
        let x : get_or (put_moment (digits_of long) r t) j 0 ≡ get_or (put_moment (digits_of long) r t) (digits_of long) 0 = ap (λ (k : ℕ). get_or (put_moment (digits_of long) r t) k 0) (sym q) in
        let y : get_or a (i + digits_of long) 0 ≡ get_or a (i + j) 0 = ap (λ (k : ℕ). get_or a (i + k) 0) q in
        x ∙ e ∙ y

    pub general_again : is_general (digits_of long) a i ≡ true → (j : ℕ) → j ≤ digits_of long → get_or (put_general (digits_of long) r (general_at (digits_of long) a i)) j 0 ≡ get_or a (i + j) 0
    general_again e j h = go (is_none (digits_of long) a i) refl e
      where
        go : (b : Bool) → is_none (digits_of long) a i ≡ b → b || (is_digits (digits_of long) a i && is_moment (moment_at (digits_of long) a i)) ≡ true → get_or (put_general (digits_of long) r (cond b None (Some (moment_at (digits_of long) a i)))) j 0 ≡ get_or a (i + j) 0
        go true q e = none_again q j h (dec_lt j (digits_of long))
        go false q e = let t = and_true (is_digits (digits_of long) a i) _ e in some_again t.0 t.1 j h (dec_lt j (digits_of long))

-- ---- TWO TIMES THAT READ ALIKE are the same bytes, but for the last of an undefined one
same_moment : (t u : Moment) → Some t ≡ Some u → t ≡ u
same_moment t u e = cc

some_of : (b c d : Bool) → b || (c && d) ≡ true → b ≡ false → (c ≡ true) × (d ≡ true)
some_of true c d e f = absurd (true≢false f)
some_of false c d e f = and_true c d e

pub times_same : (long : Bool) (a b : List ℕ) (i k : ℕ) → is_general (digits_of long) a i ≡ true → is_general (digits_of long) b k ≡ true → general_at (digits_of long) a i ≡ general_at (digits_of long) b k → (j : ℕ) → j ≤ digits_of long → (get_or a (i + j) 0 ≡ get_or b (k + j) 0) ⊎ ((is_none (digits_of long) a i ≡ true) × (j ≡ digits_of long))
times_same long a b i k e f g j h = go (is_none (digits_of long) a i) refl (is_none (digits_of long) b k) refl g (dec_lt j (digits_of long))
  where
    go : (x : Bool) → is_none (digits_of long) a i ≡ x → (y : Bool) → is_none (digits_of long) b k ≡ y → cond x None (Some (moment_at (digits_of long) a i)) ≡ cond y None (Some (moment_at (digits_of long) b k)) → Dec (j < digits_of long) → (get_or a (i + j) 0 ≡ get_or b (k + j) 0) ⊎ ((is_none (digits_of long) a i ≡ true) × (j ≡ digits_of long))
    go true p true q g (yes l) = inl (none long a i p j l ∙ sym (none long b k q j l))
    go true p true q g (no l) = inr (p, omega (arith, l))
    go true p false q g l = let z : ◌≡◌ {A = ℕ} 0 1 = cc in absurd (omega arith)
    go false p true q g l = let z : ◌≡◌ {A = ℕ} 0 1 = cc in absurd (omega arith)
    go false p false q g (yes l) =
        let u = some_of (is_none (digits_of long) a i) (is_digits (digits_of long) a i) (is_moment (moment_at (digits_of long) a i)) e p in
        let v = some_of (is_none (digits_of long) b k) (is_digits (digits_of long) b k) (is_moment (moment_at (digits_of long) b k)) f q in
        inl (digits_same a b i k (digits_of long) (some long a i u.0).0 (some long b k v.0).0 (all_digits long a b i k (same_moment (moment_at (digits_of long) a i) (moment_at (digits_of long) b k) g)) j l)
    go false p false q g (no l) =
        let u = some_of (is_none (digits_of long) a i) (is_digits (digits_of long) a i) (is_moment (moment_at (digits_of long) a i)) e p in
        let v = some_of (is_none (digits_of long) b k) (is_digits (digits_of long) b k) (is_moment (moment_at (digits_of long) b k)) f q in
        let n : j ≡ digits_of long = omega (arith, l) in
        inl (rw n ((some long a i u.0).1 ∙ sym (some long b k v.0).1))
