-- The laws of scaled numbers: what the code's tests on words and sizes come to, and that what is written reads back, both ways.
-- By cases on the sign, over the width. Assumes nothing.
use mathlib.Core.Path.{◌≡◌, refl, sym, ap, ◌∙◌, subst}
use mathlib.Core.Bool.{Bool, true, false, cond, not, ◌&&◌, true≢false}
use mathlib.Core.List.{List}
use Prim.Native.Nat.{ℕ, suc, ◌+◌, ◌-◌, ◌^◌, ◌≤◌, ◌<◌}
use native.Mathlib.Omega.{arith}
use borrow.Author.Tests.{lt-ltb, ltb-true, ltb-false, leb-true, le-leb, lt-leb, eqb-true, eqb-false, eq-eqb, ne_eqb}
use lib.Dec.{eqb, leb, ltb}
use lib.IntN.{ℤ, pos, negsuc, nat_abs}
use lib.ListN.{get_or}
use lib.Signed.{lt_z, le_z}
use mir.Syntax.{w8, w64}
use mir.Val.{SFits, to_z, of_z}
use mir.ValLaws.{to_z-of_z}
use Rattle.calendar.specs.Said.{answer, refusal}
use Rattle.meter.specs.Lent.{inside}
use Rattle.meter.specs.Integer.{be_at, twos, word_of, is_width, top_of, half_of}
use Rattle.meter.specs.Scaled.{is_scale, lowest, highest, none_of, same, integer_of, is_none, is_none_word, is_defined, scaled_read_at, fits_defined}
use Rattle.meter.specs.Rounding.{is_decimals}
use Rattle.std.specs.declared.option.Option.TheVariants.{None}
use Rattle.meter.specs.Numeral as S
use Rattle.meter.proofs.IntegerLaws.{Wide, twos_low, twos_high}

-- ---- decimals, by the code's two tests, and scales
module _ (z : ℤ) (f : SFits w8 z) where
  pub decimals_below : lt_z (to_z w8 (of_z w8 z)) (pos 0) ≡ true → is_decimals z ≡ false
  unfolding is_decimals
  decimals_below t = go z (ap (λ (y : ℤ). lt_z y (pos 0)) (sym (to_z-of_z w8 z f)) ∙ t)
    where
      go : (z : ℤ) → lt_z z (pos 0) ≡ true → is_decimals z ≡ false
      go (pos n) t = absurd (omega (arith, ltb-true n 0 t))
      go (negsuc n) t = refl

  pub decimals_left : lt_z (to_z w8 (of_z w8 z)) (pos 0) ≡ false → le_z (to_z w8 (of_z w8 z)) (pos 15) ≡ is_decimals z
  unfolding is_decimals
  decimals_left t = ap (λ (y : ℤ). le_z y (pos 15)) (to_z-of_z w8 z f) ∙ go z (ap (λ (y : ℤ). lt_z y (pos 0)) (sym (to_z-of_z w8 z f)) ∙ t)
    where
      go : (z : ℤ) → lt_z z (pos 0) ≡ false → le_z z (pos 15) ≡ is_decimals z
      go (pos n) t = refl
      go (negsuc n) t = absurd (true≢false t)

pub decimals_small : (z : ℤ) → is_decimals z ≡ true → nat_abs z ≤ 15
unfolding is_decimals
decimals_small (pos n) t = leb-true n 15 t
decimals_small (negsuc n) t = absurd (true≢false (sym t))

pub scale_small : (z : ℤ) → is_scale z ≡ true → nat_abs z ≤ 15
unfolding is_scale
scale_small z t = leb-true (nat_abs z) 15 t

-- ---- the undefined integer
pub same_self : (i : ℤ) → same i i ≡ true
same_self (pos n) = let e : n ≤ n = omega arith in simp (le-leb n n e)
same_self (negsuc n) = let e : n ≤ n = omega arith in simp (le-leb n n e)

same_pos : (a b : ℕ) → same (pos a) (pos b) ≡ eqb a b
same_pos a b = go (eqb a b) refl
  where
    go : (x : Bool) → eqb a b ≡ x → same (pos a) (pos b) ≡ x
    go true e = subst (λ (k : ℕ). same (pos a) (pos k) ≡ true) (eqb-true a b e) (same_self (pos a))
    go false e = low (leb a b) refl
      where
        low : (y : Bool) → leb a b ≡ y → y && leb b a ≡ false
        low true h = let d : a ≡ b → ⊥ = eqb-false a b e in let l = leb-true a b h in lt-leb b a (omega arith)
        low false h = refl

same_negsuc : (a b : ℕ) → same (negsuc a) (negsuc b) ≡ eqb a b
same_negsuc a b = go (eqb a b) refl
  where
    go : (x : Bool) → eqb a b ≡ x → same (negsuc a) (negsuc b) ≡ x
    go true e = subst (λ (k : ℕ). same (negsuc a) (negsuc k) ≡ true) (eqb-true a b e) (same_self (negsuc a))
    go false e = low (leb b a) refl
      where
        low : (y : Bool) → leb b a ≡ y → y && leb a b ≡ false
        low true h = let d : a ≡ b → ⊥ = eqb-false a b e in let l = leb-true b a h in lt-leb a b (omega arith)
        low false h = refl

-- the integer is the undefined one exactly where its bytes' number is half, or top
pub none_word : (signed : Bool) (n v : ℕ) → Wide n → v < 256 ^ n → is_none signed n v ≡ is_none_word signed n v
unfolding integer_of none_of lowest highest
none_word false n v w h = same_pos v (top_of n)
none_word true n v w h = go (ltb v (half_of n)) refl
  where
    go : (b : Bool) → ltb v (half_of n) ≡ b → same (twos (half_of n) v) (negsuc (half_of n - 1)) ≡ eqb v (half_of n)
    go true e =
        let l = ltb-true v (half_of n) e in
        rw (twos_low (half_of n) v l, ne_eqb v (half_of n) (λ q. omega arith))
    go false e =
        let l = ltb-false v (half_of n) e in
        rw (twos_high (half_of n) v l (omega (arith, w.halves))) (same_negsuc (half_of n - 1 - (v - half_of n)) (half_of n - 1) ∙ back l (eqb v (half_of n)) refl)
      where
        back : half_of n ≤ v → (x : Bool) → eqb v (half_of n) ≡ x → eqb (half_of n - 1 - (v - half_of n)) (half_of n - 1) ≡ x
        back l true q = let p = eqb-true v (half_of n) q in eq-eqb (half_of n - 1 - (v - half_of n)) (half_of n - 1) (omega arith)
        back l false q =
            let d : v ≡ half_of n → ⊥ = eqb-false v (half_of n) q in
            ne_eqb (half_of n - 1 - (v - half_of n)) (half_of n - 1) (λ p. omega (arith, w.halves, w.some))

-- a signed integer of n bytes is always below 2 ^ 63
pub signed_below : (n v : ℕ) → Wide n → v < 256 ^ n → lt_z (twos (half_of n) v) (pos 0x8000_0000_0000_0000) ≡ true
signed_below n v w h = go (ltb v (half_of n)) refl
  where
    go : (b : Bool) → ltb v (half_of n) ≡ b → lt_z (twos (half_of n) v) (pos 0x8000_0000_0000_0000) ≡ true
    go true e = let l = ltb-true v (half_of n) e in rw (twos_low (half_of n) v l) (lt-ltb v 0x8000_0000_0000_0000 (omega (arith, w.fits)))
    go false e = let l = ltb-false v (half_of n) e in rw (twos_high (half_of n) v l (omega (arith, w.halves)))

-- ---- what can be written, by the size of the integer
pub fits_signed : (n : ℕ) (i s : ℤ) → Wide n → is_scale s ≡ true → ltb (nat_abs i) (half_of n) ≡ fits_defined true n i s
unfolding fits_defined none_of lowest highest
fits_signed n (pos k) s w e = rw e (go (ltb k (half_of n)) refl)
  where
    go : (b : Bool) → ltb k (half_of n) ≡ b → b ≡ (leb k (half_of n - 1) && true) && ltb k 0x8000_0000_0000_0000
    go true h = let l = ltb-true k (half_of n) h in rw (le-leb k (half_of n - 1) (omega arith), lt-ltb k 0x8000_0000_0000_0000 (omega (arith, w.fits)))
    go false h = let l = ltb-false k (half_of n) h in rw (lt-leb k (half_of n - 1) (omega (arith, w.some)))
fits_signed n (negsuc k) s w e = rw (e, same_negsuc k (half_of n - 1)) (go (ltb (suc k) (half_of n)) refl)
  where
    go : (b : Bool) → ltb (suc k) (half_of n) ≡ b → b ≡ ((leb k (half_of n - 1) && true) && not (eqb k (half_of n - 1))) && true
    go true h =
        let l = ltb-true (suc k) (half_of n) h in
        rw (le-leb k (half_of n - 1) (omega arith), ne_eqb k (half_of n - 1) (λ q. omega arith))
    go false h = let l = ltb-false (suc k) (half_of n) h in last (eqb k (half_of n - 1)) refl
      where
        last : (x : Bool) → eqb k (half_of n - 1) ≡ x → false ≡ ((leb k (half_of n - 1) && true) && not x) && true
        last true q = rw (le-leb k (half_of n - 1) (omega (arith, eqb-true k (half_of n - 1) q)))
        last false q = let d : k ≡ half_of n - 1 → ⊥ = eqb-false k (half_of n - 1) q in let l = ltb-false (suc k) (half_of n) h in rw (lt-leb k (half_of n - 1) (omega arith))

pub fits_negative : (n : ℕ) (i s : ℤ) → lt_z i (pos 0) ≡ true → is_scale s ≡ true → false ≡ fits_defined false n i s
unfolding fits_defined none_of lowest highest
fits_negative n (pos k) s t e = absurd (omega (arith, ltb-true k 0 t))
fits_negative n (negsuc k) s t e = rw e

pub fits_unsigned : (n : ℕ) (i s : ℤ) → SFits w64 i → lt_z i (pos 0) ≡ false → is_scale s ≡ true → ltb (nat_abs i) (top_of n) ≡ fits_defined false n i s
unfolding fits_defined none_of lowest highest
fits_unsigned n (negsuc k) s f t e = absurd (true≢false t)
fits_unsigned n (pos k) s f t e = rw (e, same_pos k (top_of n), lt-ltb k 0x8000_0000_0000_0000 f.sfits) (go (ltb k (top_of n)) refl)
  where
    go : (b : Bool) → ltb k (top_of n) ≡ b → b ≡ ((leb 0 k && leb k (top_of n)) && not (eqb k (top_of n))) && true
    go true h =
        let l = ltb-true k (top_of n) h in
        rw (le-leb 0 k (omega arith), le-leb k (top_of n) (omega arith), ne_eqb k (top_of n) (λ q. omega arith))
    go false h = let l = ltb-false k (top_of n) h in last (eqb k (top_of n)) refl
      where
        last : (x : Bool) → eqb k (top_of n) ≡ x → false ≡ ((leb 0 k && leb k (top_of n)) && not x) && true
        last true q = rw (le-leb 0 k (omega arith), le-leb k (top_of n) (omega (arith, eqb-true k (top_of n) q)))
        last false q = let d : k ≡ top_of n → ⊥ = eqb-false k (top_of n) q in let l = ltb-false k (top_of n) h in rw (le-leb 0 k (omega arith), lt-leb k (top_of n) (omega arith))

-- the bits of the undefined integer
pub none_signed : (n : ℕ) → Wide n → 0xffff_ffff_ffff_ffff - (half_of n - 1) ≡ word_of (none_of true n)
unfolding word_of none_of lowest highest
none_signed n w = omega (arith, w.some, w.fits)

pub none_unsigned : (n : ℕ) → top_of n ≡ word_of (none_of false n)
unfolding word_of none_of lowest highest
none_unsigned n = refl

-- ---- the reader, by cases
module _ (signed : Bool) (n : ℕ) (a : List ℕ) (at : ℕ) (i : inside a at (1 + n) ≡ true) (w : is_width n ≡ true) where
  pub read_none : is_none signed n (be_at a (at + 1) n) ≡ true → scaled_read_at signed n a at ≡ answer None
  read_none e = rw (i, w, e)

  pub read_some : is_none signed n (be_at a (at + 1) n) ≡ false → scaled_read_at signed n a at ≡ cond (is_defined signed n (be_at a (at + 1) n) (twos 128 (get_or a at 0))) (answer (S.Number (integer_of signed n (be_at a (at + 1) n)) (twos 128 (get_or a at 0)))) (refusal 21 0)
  read_some e = rw (i, w, e)
