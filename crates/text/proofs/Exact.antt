-- THE EXACT VALUE of a number: what stands before the digits counts nothing, w bytes are below 10 ^ w, and without a sign the value is the
-- number of the digits. By induction on the bytes, and by the grammar (Meaning). Assumes nothing.
use mathlib.Core.Path.{◌≡◌, refl, sym, ap, ◌∙◌}
use mathlib.Core.Bool.{Bool, true, false, true≢false}
use mathlib.Core.Logic.{◌⊎◌, inl, inr, ⊎_elim}
use mathlib.Core.List.{List}
use Prim.Native.Nat.{ℕ, zero, suc, ◌+◌, ◌-◌, ◌^◌, ◌≤◌, ◌<◌}
use native.Mathlib.Nat.{pow-suc}
use native.Mathlib.Decide.{dec_lt}
use native.Mathlib.Omega.{arith}
use borrow.Author.Tests.{ne_eqb, le-leb}
use lib.IntN.{pos}
use lib.ListN.{length, get_or}
use Rattle.calendar.specs.Said.{answer}
use Rattle.meter.specs.General.{number_of}
use Rattle.meter.proofs.GeneralRuns.{number_join}
use Rattle.text.specs.Field.{is_x, is_number, integer_of, is_value, number_read_at, count_at}
use Rattle.text.specs.Grammar.{NumberIn}
use Rattle.text.specs.declared.Kind.TheVariants.{Count}
use Rattle.std.specs.declared.option.Option.TheVariants.{Some}
use Rattle.text.proofs.Meaning.{number_means, x_means, spaces_are}
use Rattle.text.proofs.Laws.{read_whole}

-- n bytes that are digits or below them are a number below 10 ^ n
pub number_small : (a : List ℕ) (i n : ℕ) → ((j : ℕ) → j < n → get_or a (i + j) 0 ≤ 57) → number_of a i n < 10 ^ n
unfolding number_of
number_small a i zero f = omega arith
number_small a i (suc n) f = rw pow-suc (omega (arith, number_small a i n (λ j h. f j (omega arith)), f n (omega arith)))

-- bytes below the digits count nothing
pub number_zeros : (a : List ℕ) (i n : ℕ) → ((j : ℕ) → j < n → get_or a (i + j) 0 ≤ 48) → number_of a i n ≡ 0
unfolding number_of
number_zeros a i zero f = refl
number_zeros a i (suc n) f = omega (arith, number_zeros a i n (λ j h. f j (omega arith)), f n (omega arith))

module _ (signed : Bool) (a : List ℕ) (i w : ℕ) (g : NumberIn signed a i w) where
  -- what stands before the digits: spaces, and a sign or none
  sign_byte : (j : ℕ) → g.spaces ≤ j → j < g.spaces + g.sign → (g.sign ≡ 0) ⊎ ((g.sign ≡ 1) × (signed ≡ true) × ((get_or a (i + g.spaces) 0 ≡ 43) ⊎ (get_or a (i + g.spaces) 0 ≡ 45))) → get_or a (i + j) 0 ≤ 48
  sign_byte j l h (inl z) = absurd (omega arith)
  sign_byte j l h (inr (o, t, b)) =
      let e : g.spaces ≡ j = omega arith in
      rw (← e) (⊎_elim (λ f. omega arith) (λ f. omega arith) b)

  front_byte : (j : ℕ) → j < g.spaces + g.sign → Dec (j < g.spaces) → get_or a (i + j) 0 ≤ 48
  front_byte j h (yes l) = omega (arith, g.blank j l)
  front_byte j h (no l) = sign_byte j (omega (arith, l)) h g.either

  any_byte : (j : ℕ) → j < w → Dec (j < g.spaces + g.sign) → get_or a (i + j) 0 ≤ 57
  any_byte j h (yes l) = omega (arith, front_byte j l (dec_lt j g.spaces))
  any_byte j h (no l) = (g.digits j (omega (arith, l)) h).1

  pub in_small : number_of a i w < 10 ^ w
  in_small = number_small a i w (λ j h. any_byte j h (dec_lt j (g.spaces + g.sign)))

  -- THE NUMBER IS THAT OF THE DIGITS
  pub in_digits : number_of a i w ≡ number_of a (i + (g.spaces + g.sign)) (w - (g.spaces + g.sign))
  in_digits =
      let m = g.spaces + g.sign in
      let e : m + (w - m) ≡ w = omega (arith, g.some) in
      let z : number_of a i m ≡ 0 = number_zeros a i m (λ j h. front_byte j h (dec_lt j g.spaces)) in
      sym (ap (number_of a i) e) ∙ number_join a i m (w - m) ∙ rw z (omega arith)

  pub in_not_x : is_x a i w ≡ false
  in_not_x = go (is_x a i w) refl
    where
      go : (b : Bool) → is_x a i w ≡ b → b ≡ false
      go true e =
          absurd (
          let x = (x_means a i w e).1 (w - 1) (omega (arith, g.some)) in
          let d = g.digits (w - 1) (omega (arith, g.some)) (omega (arith, g.some)) in
          omega arith
          )
      go false e = refl

module _ (signed : Bool) (a : List ℕ) (i w : ℕ) (e : is_number signed a i w ≡ true) where
  pub is_small : number_of a i w < 10 ^ w
  is_small = in_small signed a i w (number_means signed a i w e)

  -- no field is both a number and undefined
  pub not_x : is_x a i w ≡ false
  not_x = in_not_x signed a i w (number_means signed a i w e)

module _ (a : List ℕ) (i w : ℕ) (e : is_number false a i w ≡ true) where
  first_digit : (g : NumberIn false a i w) → (g.sign ≡ 0) ⊎ ((g.sign ≡ 1) × (false ≡ true) × ((get_or a (i + g.spaces) 0 ≡ 43) ⊎ (get_or a (i + g.spaces) 0 ≡ 45))) → get_or a (i + g.spaces) 0 ≡ 45 → ⊥
  first_digit g (inl z) q = omega (arith, g.digits g.spaces (omega arith) (omega (arith, g.some)))
  first_digit g (inr (o, t, b)) q = true≢false (sym t)

  pub integer_unsigned : integer_of a i w ≡ pos (number_of a i w)
  integer_unsigned =
      let g = number_means false a i w e in
      rw (spaces_are false a i w g, ne_eqb (get_or a (i + g.spaces) 0) 45 (first_digit g g.either))

-- a size or a total of w bytes, and what the reader says of it
pub count_small : (a : List ℕ) (i w : ℕ) → is_value Count a i w ≡ true → number_of a i w < 10 ^ w
unfolding is_value
count_small a i w e = is_small false a i w e

pub count_read : (a : List ℕ) (i w : ℕ) → is_value Count a i w ≡ true → w ≤ 17 → i + w ≤ length a → number_read_at false w a i ≡ answer (Some (pos (number_of a i w)))
unfolding is_value
count_read a i w e l h =
    sym (read_whole false a i w (le-leb (i + w) (length a) h) l (not_x false a i w e) e (pos (number_of a i w)) (sym (integer_unsigned a i w e)))

pub count_is : (a : List ℕ) (i w : ℕ) → is_number false a i w ≡ true → w ≤ 17 → i + w ≤ length a → count_at a i w ≡ number_of a i w
count_is a i w e l h = rw (le-leb (i + w) (length a) h, le-leb w 17 l, e)
