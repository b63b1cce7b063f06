-- A column, written from its last byte to its first: the digits that are left, put into the room as it is, give the whole. Assumes nothing.
use Prim.Native.Nat.{ℕ, ◌+◌, ◌-◌, ◌/◌, ◌%◌, ◌≤◌, ◌<◌}
use native.Mathlib.Decide.{dec_lt}
use native.Mathlib.Omega.{arith}
use mathlib.Core.Path.{◌≡◌, refl, sym, ap, ◌∙◌}
use mathlib.Core.List.{List, [], ◌∷◌}
use lib.ListN.{length, set, length-set, length-append}
use lib.Seq.{sets}
use Rattle.listing.specs.Decimal.{decimal, column, Puts}
use Rattle.listing.proofs.DecimalLaws.{decimal_one, decimal_more, length_more, length_some}
use Rattle.listing.specs.Listing.{row}
use Rattle.listing.proofs.StoreLaws.{sets_snoc, puts_length}

pub column_length : (v b : ℕ) → length (column v b) ≡ length (decimal v) + 1
column_length v b = length-append (decimal v) (b ∷ [])

-- the digits of `rest` are still to be written, from byte `at` up to byte i
pub record Writing (room₀ : List ℕ) (at v : ℕ) (room : List ℕ) (i rest : ℕ) : Type 0 where
  pub size : length room ≡ length room₀
  pub wide : at + length (decimal v) < length room₀
  pub place : i ≡ at + length (decimal rest)
  pub low : i ≤ at + length (decimal v)
  pub same : sets room at (decimal rest) ≡ sets room₀ at (decimal v)

pub writing_first : (room : List ℕ) (at v b i : ℕ) → i ≡ at + length (decimal v) → at + length (column v b) ≤ length room → Writing (set room i b) at v (set room i b) i v
writing_first room at v b i e h = record {
  size = refl;
  wide = simp length-set (omega (arith, column_length v b));
  place = e;
  low = omega arith;
  same = refl;
}

module _ {room₀ : List ℕ} {at v : ℕ} {room : List ℕ} {i rest : ℕ} (w : Writing room₀ at v room i rest) where
  pub more_left : at + 1 < i → 9 < rest
  more_left h = go (dec_lt rest 10)
    where
      go : Dec (rest < 10) → 9 < rest
      go (yes u) = absurd (omega (arith, w.place, ap length (decimal_one rest u)))
      go (no u) = omega (arith, u)

  pub one_left : i ≤ at + 1 → rest ≤ 9
  one_left h = go (dec_lt rest 10)
    where
      go : Dec (rest < 10) → rest ≤ 9
      go (yes u) = omega (arith, u)
      go (no u) = absurd (omega (arith, w.place, length_more rest (omega (arith, u)), length_some (rest / 10)))

  pub writing_next : 9 < rest → Writing room₀ at v (set room (i - 1) (48 + rest % 10)) (i - 1) (rest / 10)
  writing_next h =
      let l : length (decimal rest) ≡ length (decimal (rest / 10)) + 1 = ap length (decimal_more rest h) ∙ simp length-append in
      let e : i - 1 ≡ at + length (decimal (rest / 10)) = omega (arith, w.place, l) in
      record {
        size = simp length-set w.size;
        wide = w.wide;
        place = e;
        low = omega (arith, w.low);
        same = rw e (sym (sets_snoc room at (decimal (rest / 10)) (48 + rest % 10)) ∙ ap (sets room at) (sym (decimal_more rest h)) ∙ w.same);
      }

pub writing_last : (room₀ : List ℕ) (at v b j : ℕ) {room : List ℕ} {i rest : ℕ} → Writing (set room₀ j b) at v room i rest → j ≡ at + length (decimal v) → rest ≤ 9 → set room at (48 + rest) ≡ sets room₀ at (column v b)
writing_last room₀ at v b j {room} {i} {rest} w e h =
    ap (sets room at) (sym (decimal_one rest (omega arith)))
    ∙ w.same
    ∙ ap (λ (k : ℕ). sets (set room₀ k b) at (decimal v)) e
    ∙ sym (sets_snoc room₀ at (decimal v) b)

-- ---- one column after another
pub column_at : (b : ℕ) {room exit : List ℕ} {i r x v : ℕ} → x ≡ v → Puts room i (column x b) r exit → Puts room i (column v b) r exit
column_at b e f = rw e at f

pub fits_column : {x v : ℕ} (w : ℕ) (l : List ℕ) (i : ℕ) {n : ℕ} → x ≡ v → i + length (row (v ∷ w ∷ l)) ≤ n → i + length (column x 32) ≤ n
fits_column {x} {v} w l i e h = rw e (omega (arith, length-append (column v 32) (row (w ∷ l))))

pub fits_last : {x v : ℕ} (i : ℕ) {n : ℕ} → x ≡ v → i + length (row (v ∷ [])) ≤ n → i + length (column x 10) ≤ n
fits_last i e h = rw e h

pub fits_rest : (v w : ℕ) (l : List ℕ) {room exit : List ℕ} {i r : ℕ} → Puts room i (column v 32) r exit → i + length (row (v ∷ w ∷ l)) ≤ length room → r + length (row (w ∷ l)) ≤ length exit
fits_rest v w l f h = omega (arith, f.next, puts_length f, length-append (column v 32) (row (w ∷ l)))
