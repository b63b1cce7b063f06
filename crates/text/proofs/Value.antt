-- THE VALUE OF A NUMBER, both ways: what specs/Field.antt computes of a field is what its digits and its sign say in specs/Grammar.antt. The
-- bytes before the digits count 0 (Exact), and digits are one number. Assumes nothing.
use Prim.Native.Nat.{ℕ, zero, suc, ◌+◌, ◌-◌, ◌<◌}
use native.Mathlib.Decide.{ℕ_discrete}
use native.Mathlib.Omega.{arith}
use mathlib.Core.Path.{◌≡◌, refl, sym, ◌∙◌}
use mathlib.Core.Bool.{Bool, true}
use mathlib.Core.List.{List}
use lib.IntN.{ℤ}
use lib.ListN.{get_or}
use Rattle.meter.specs.General.{number_of}
use Rattle.text.specs.Field.{spaces, is_number, integer_of}
use Rattle.text.specs.Grammar.{In, DigitsOf, none, digit, NumberOf}
use Rattle.text.proofs.Exact.{in_digits}
use Rattle.text.proofs.Laws.{integer_minus, integer_plain}
use Rattle.text.proofs.Meaning.{number_means, spaces_are}

digits_are : (a : List ℕ) (i n : ℕ) → ((j : ℕ) → j < n → In 48 57 (get_or a (i + j) 0)) → DigitsOf a i n (number_of a i n)
unfolding number_of
digits_are a i zero f = none
digits_are a i (suc n) f =
    let d = f n (omega arith) in
    digit {d = get_or a (i + n) 0 - 48} (digits_are a i n (λ j h. f j (omega arith))) (omega arith) (omega arith)

one_size : {a : List ℕ} {i n v : ℕ} → DigitsOf a i n v → v ≡ number_of a i n
unfolding number_of
one_size none = refl
one_size (digit s h e) = omega (arith, one_size s, e)

module _ (signed : Bool) (a : List ℕ) (i w : ℕ) where
  pub number_value : is_number signed a i w ≡ true → NumberOf signed a i w (integer_of a i w)
  number_value e =
      let g = number_means signed a i w e in
      let m = g.spaces + g.sign in
      let q = in_digits signed a i w g in
      record {
        form = g;
        size = number_of a (i + m) (w - m);
        digits = digits_are a (i + m) (w - m) (λ j h. let z : i + (m + j) ≡ i + m + j = omega arith in rw z at (g.digits (m + j) (omega arith) (omega arith)));
        minus = λ b. sym (integer_minus a i w _ g.spaces (sym q) (sym (spaces_are signed a i w g)) b);
        plain = λ b. sym (integer_plain a i w _ g.spaces (sym q) (sym (spaces_are signed a i w g)) b);
      }

  pub value_number : {z : ℤ} → NumberOf signed a i w z → z ≡ integer_of a i w
  value_number {z} n = go (ℕ_discrete (get_or a (i + n.form.spaces) 0) 45)
    where
      size_is : n.size ≡ number_of a i w
      size_is = one_size n.digits ∙ sym (in_digits signed a i w n.form)

      at : n.form.spaces ≡ spaces a i w
      at = sym (spaces_are signed a i w n.form)

      go : Dec (get_or a (i + n.form.spaces) 0 ≡ 45) → z ≡ integer_of a i w
      go (yes b) = n.minus b ∙ integer_minus a i w n.size n.form.spaces size_is at b
      go (no b) = n.plain b ∙ integer_plain a i w n.size n.form.spaces size_is at b
