-- The laws of the quick lookup. By tests that antt computes over the 72 names, the tables are the rows and the places of the names; a name and
-- a row are the same where their lengths and their eights are, which overlap at the end; so a name is looked for at one place. Assumes nothing.
use mathlib.Core.Path.{◌≡◌, refl, sym, ap, ◌∙◌}
use mathlib.Core.Bool.{Bool, true, false, ◌&&◌}
use mathlib.Core.List.{List, [], ◌∷◌}
use Prim.Native.Nat.{ℕ, zero, suc, ◌+◌, ◌-◌, ◌*◌, ◌/◌, ◌%◌, ◌^◌, ◌≤◌, ◌<◌}
use native.Mathlib.Decide.{dec_lt}
use native.Mathlib.Omega.{arith}
use borrow.Author.Tests.{eq-eqb, ne_eqb, eqb-true, le-leb, lt-leb, ltb-true}
use lib.Dec.{T, eqb, eqb→eq, leb, leb→le, ltb}
use lib.ListN.{length, get_or}
use lib.Seq.{ext_get_or}
use lib.Ieee.Fits.{and_l, and_r}
use Rattle.calendar.specs.Said.{answer, refusal}
use Rattle.calendar.proofs.Range.{below, at}
use Rattle.meter.specs.Integer.{be_at}
use Rattle.meter.proofs.IntegerLaws.{be_at_same}
use Rattle.mphr.specs.Layout.{fields, rows, names, name_of, pad}
use Rattle.mphr.specs.Lookup.{same, field_named}
use Rattle.mphr.specs.NameTable.{all}
use Rattle.mphr.specs.Rows.{head_words, end_words}
use Rattle.mphr.specs.Quick.{eight_at, byte_of, words_of, joined, agrees, letters_of, begins, place_of, field_at, likely_of}
use Rattle.mphr.proofs.AlikeLaws.{eight_alike, clash}
use Rattle.mphr.proofs.NameLaws.{most, pad_in, at_table, same_refl, same_eq, found, no_name}

-- ---- the last arm of a match on the numbers from a on: what is none of the n before it
abbrev Others : ℕ → ℕ → ℕ → Type 0
Others a zero k = Unit {0}
Others a (suc n) k = Others a n k × (k ≡ a + n → ⊥)

past : (a n k : ℕ) → a ≤ k → Others a n k → a + n ≤ k
past a zero k h t = omega arith
past a (suc n) k h (t, d) = let l = past a n k h t in omega (arith, d)

pub last_arm : (a n k : ℕ) → a ≤ k → k < a + suc n → Others a n k → k ≡ a + n
last_arm a n k h l t = let p = past a n k h t in omega arith

pub last_of : (n k : ℕ) → k < suc n → Others 0 n k → k ≡ 0 + n
last_of n k l t = let g : 0 ≤ k = omega arith in let u : k < 0 + suc n = omega arith in last_arm 0 n k g u t

-- ---- THE TESTS, one of each name
passed : (b : Bool) → T b → b ≡ true
passed true t = refl
passed false t = absurd t

abbrev row_right : ℕ → Bool
row_right k = same (joined (get_or head_words k []) (get_or end_words k [])) (words_of (name_of k))

rows_right : T (below row_right 72)
unfolding fields rows words_of be_at
rows_right = tt

abbrev width_right : ℕ → Bool
width_right k = eqb (get_or (words_of (name_of k)) 3 0 % 256) (length (name_of k))

widths_right : T (below width_right 72)
unfolding fields rows words_of be_at
widths_right = tt

abbrev byte_right : ℕ → ℕ → Bool
byte_right k i = eqb (byte_of (get_or (words_of (name_of k)) (i / 8) 0) (i % 8)) (get_or (pad (name_of k)) i 0)

bytes_right : T (below (λ (k : ℕ). below (byte_right k) 30) 72)
unfolding fields rows words_of be_at
bytes_right = tt

-- a name's place has its field
abbrev place_right : ℕ → Bool
place_right k = eqb (likely_of (name_of k)) k

places_right : T (below place_right 72)
unfolding fields rows likely_of be_at
places_right = tt

-- a name has nine bytes at least, and they are bytes
abbrev small : ℕ → Bool
small x = ltb x 256

abbrev sized : ℕ → Bool
sized k = leb 9 (length (name_of k)) && all small (name_of k)

all_sized : T (below sized 72)
unfolding fields rows
all_sized = tt

low : (r : List ℕ) → T (all small r) → (j : ℕ) → get_or r j 0 < 256
low [] t j = omega arith
low (x ∷ xs) t zero = ltb-true x 256 (passed (small x) (and_l (small x) (all small xs) t))
low (x ∷ xs) t (suc j) = low xs (and_r (small x) (all small xs) t) j

module _ (k : ℕ) (h : k < 72) where
  pub row_at : joined (get_or head_words k []) (get_or end_words k []) ≡ words_of (name_of k)
  row_at = same_eq (joined (get_or head_words k []) (get_or end_words k [])) (words_of (name_of k)) (passed (row_right k) (at row_right 72 rows_right k h))

  pub width_at : get_or (words_of (name_of k)) 3 0 % 256 ≡ length (name_of k)
  width_at = eqb→eq (get_or (words_of (name_of k)) 3 0 % 256) (length (name_of k)) (at width_right 72 widths_right k h)

  pub byte_at : (i : ℕ) → i < 30 → byte_of (get_or (words_of (name_of k)) (i / 8) 0) (i % 8) ≡ get_or names (30 * k + i) 0
  byte_at i l =
      eqb→eq (byte_of (get_or (words_of (name_of k)) (i / 8) 0) (i % 8)) (get_or (pad (name_of k)) i 0) (at (byte_right k) 30 (at (λ (k : ℕ). below (byte_right k) 30) 72 bytes_right k h) i l)
      ∙ sym (at_table k i h l)

  pub place_at : likely_of (name_of k) ≡ k
  place_at = eqb→eq (likely_of (name_of k)) k (at place_right 72 places_right k h)

  sized_at : T (sized k)
  sized_at = at sized 72 all_sized k h

  pub least : 9 ≤ length (name_of k)
  least = leb→le 9 (length (name_of k)) (and_l (leb 9 (length (name_of k))) (all small (name_of k)) sized_at)

  name_low : (j : ℕ) → get_or (name_of k) j 0 < 256
  name_low = low (name_of k) (and_r (leb 9 (length (name_of k))) (all small (name_of k)) sized_at)

-- ---- the eights of a padded name are those of the name, as far as it goes
in_pad : (r : List ℕ) (i : ℕ) → i + 8 ≤ length r → eight_at (pad r) i ≡ eight_at r i
in_pad r i h =
    let e : be_at (pad r) i 4 ≡ be_at r i 4 = be_at_same (pad r) r i i 4 (λ m l. pad_in r (i + m) (omega arith)) in
    let f : be_at (pad r) (i + 4) 4 ≡ be_at r (i + 4) 4 = be_at_same (pad r) r (i + 4) (i + 4) 4 (λ m l. pad_in r (i + 4 + m) (omega arith)) in
    cc

agrees_yes : (s : List ℕ) (i w : ℕ) → i + 8 ≤ length s → agrees s i w ≡ true → eight_at s i ≡ w
agrees_yes s i w h e = eqb-true (eight_at s i) w (rw (le-leb (i + 8) (length s) h) at e)

agrees_pad : (r : List ℕ) (i : ℕ) → agrees r i (eight_at (pad r) i) ≡ true
agrees_pad r i = go (dec_lt (length r) (i + 8))
  where
    go : Dec (length r < i + 8) → agrees r i (eight_at (pad r) i) ≡ true
    go (yes l) = rw (lt-leb (i + 8) (length r) l)
    go (no l) = let g : i + 8 ≤ length r = omega (arith, l) in rw (le-leb (i + 8) (length r) g) (eq-eqb (eight_at r i) (eight_at (pad r) i) (sym (in_pad r i g)))

-- ---- a name and a row
other : (s r : List ℕ) → (s ≡ r → ⊥) → false ≡ same s r
other s r d = go (same s r) refl
  where
    go : (b : Bool) → same s r ≡ b → false ≡ same s r
    go false e = sym e
    go true e = absurd (d (same_eq s r e))

module _ (s : List ℕ) (k : ℕ) (h : k < 72) (row : List ℕ) (e : row ≡ words_of (name_of k)) where
  pub width_no : (get_or row 3 0 % 256 ≡ length s → ⊥) → false ≡ same s (name_of k)
  width_no d = other s (name_of k) (λ q. d (ap (λ (l : List ℕ). get_or l 3 0 % 256) e ∙ width_at k h ∙ ap length (sym q)))

  eight_no : (i w : ℕ) → w ≡ eight_at (pad (name_of k)) i → agrees s i w ≡ false → false ≡ same s (name_of k)
  eight_no i w f d =
      other s (name_of k) (λ q.
      clash (sym (agrees_pad (name_of k) i) ∙ ap (λ (l : List ℕ). agrees l i (eight_at (pad (name_of k)) i)) (sym q) ∙ ap (agrees s i) (sym f) ∙ d))

  word_0 : get_or row 0 0 ≡ eight_at (pad (name_of k)) 0
  unfolding words_of
  word_0 = ap (λ (l : List ℕ). get_or l 0 0) e

  word_1 : get_or row 1 0 ≡ eight_at (pad (name_of k)) 8
  unfolding words_of
  word_1 = ap (λ (l : List ℕ). get_or l 1 0) e

  word_2 : get_or row 2 0 ≡ eight_at (pad (name_of k)) 16
  unfolding words_of
  word_2 = ap (λ (l : List ℕ). get_or l 2 0) e

  word_4 : get_or row 4 0 ≡ eight_at (name_of k) (length (name_of k) - 8)
  unfolding words_of
  word_4 = ap (λ (l : List ℕ). get_or l 4 0) e

  pub first_no : agrees s 0 (get_or row 0 0) ≡ false → false ≡ same s (name_of k)
  first_no = eight_no 0 (get_or row 0 0) word_0

  pub second_no : agrees s 8 (get_or row 1 0) ≡ false → false ≡ same s (name_of k)
  second_no = eight_no 8 (get_or row 1 0) word_1

  pub third_no : agrees s 16 (get_or row 2 0) ≡ false → false ≡ same s (name_of k)
  third_no = eight_no 16 (get_or row 2 0) word_2

  pub length_is : get_or row 3 0 % 256 ≡ length s → length s ≡ length (name_of k)
  length_is l = sym l ∙ ap (λ (l : List ℕ). get_or l 3 0 % 256) e ∙ width_at k h

  module _ (b : (j : ℕ) → get_or s j 0 < 256) (l : get_or row 3 0 % 256 ≡ length s) where
    -- eight bytes that are the row's
    part : (i : ℕ) → eight_at s i ≡ eight_at (name_of k) i → (j : ℕ) → i ≤ j → j < i + 8 → get_or s j 0 ≡ get_or (name_of k) j 0
    part i f j g u =
        let q : i + (j - i) ≡ j = omega arith in
        ap (λ (n : ℕ). get_or s n 0) (sym q) ∙ eight_alike s (name_of k) i i b (name_low k h) f (j - i) (omega arith) ∙ ap (λ (n : ℕ). get_or (name_of k) n 0) q

    window : (i w : ℕ) → w ≡ eight_at (pad (name_of k)) i → agrees s i w ≡ true → i + 8 ≤ length s → eight_at s i ≡ eight_at (name_of k) i
    window i w f a g = agrees_yes s i w g a ∙ f ∙ in_pad (name_of k) i (omega (arith, (length_is l)))

    module _ (a₀ : agrees s 0 (get_or row 0 0) ≡ true) (a₁ : agrees s 8 (get_or row 1 0) ≡ true) (a₂ : agrees s 16 (get_or row 2 0) ≡ true) where
      whole : eight_at s (length s - 8) ≡ get_or row 4 0 → s ≡ name_of k
      whole f = ext_get_or 0 s (name_of k) (length_is l) each
        where
          g : 9 ≤ length s
          g = omega (arith, (length_is l), least k h)

          u : length s ≤ 30
          u = omega (arith, (length_is l), most k h)

          tail : eight_at s (length s - 8) ≡ eight_at (name_of k) (length s - 8)
          tail = f ∙ word_4 ∙ ap (λ (n : ℕ). eight_at (name_of k) (n - 8)) (sym (length_is l))

          go : (j : ℕ) → j < length s → Dec (j < 8) → Dec (j < length s - 8) → Dec (j < 16) → get_or s j 0 ≡ get_or (name_of k) j 0
          go j v (yes x) y z = part 0 (window 0 (get_or row 0 0) word_0 a₀ (omega (arith, g))) j (omega arith) (omega arith)
          go j v (no x) (no y) z = part (length s - 8) tail j (omega (arith, y)) (omega (arith, g))
          go j v (no x) (yes y) (yes z) = part 8 (window 8 (get_or row 1 0) word_1 a₁ (omega (arith, x, y))) j (omega (arith, x)) (omega arith)
          go j v (no x) (yes y) (no z) = part 16 (window 16 (get_or row 2 0) word_2 a₂ (omega (arith, y, z))) j (omega (arith, z)) (omega (arith, y, u))

          each : (j : ℕ) → j < length s → get_or s j 0 ≡ get_or (name_of k) j 0
          each j v = go j v (dec_lt j 8) (dec_lt j (length s - 8)) (dec_lt j 16)

      pub last_decides : (x : ℕ) → x ≡ eight_at s (length s - 8) → eqb x (get_or row 4 0) ≡ same s (name_of k)
      last_decides x f = go (eqb x (get_or row 4 0)) refl
        where
          go : (b : Bool) → eqb x (get_or row 4 0) ≡ b → b ≡ same s (name_of k)
          go true q = sym (ap (λ (l : List ℕ). same l (name_of k)) (whole (sym f ∙ eqb-true x (get_or row 4 0) q)) ∙ same_refl (name_of k))
          go false q =
              other s (name_of k) (λ p.
              clash (sym (eq-eqb x (get_or row 4 0) (f ∙ ap (λ (l : List ℕ). eight_at l (length l - 8)) p ∙ sym word_4)) ∙ q))

-- ---- what is left after each test: by its length, by its first letter, or by its place
pub too_short : (s : List ℕ) → length s < 9 → 255 ≡ likely_of s
unfolding likely_of
too_short s g = rw (lt-leb 9 (length s) g)

pub too_long : (s : List ℕ) → 9 ≤ length s → 30 < length s → 255 ≡ likely_of s
unfolding likely_of
too_long s g h = rw (le-leb 9 (length s) g, lt-leb (length s) 30 h)

module _ (s : List ℕ) (g : 9 ≤ length s) (h : length s ≤ 30) (w : ℕ) (e : w ≡ letters_of s) (x : ℕ) (f : x ≡ get_or s 0 0) where
  pub begins_no : (w / 2 ^ (x % 32) % 2 ≡ 1 → ⊥) → 255 ≡ likely_of s
  unfolding likely_of
  begins_no d = let n : eqb (begins s) 1 ≡ false = ne_eqb (begins s) 1 (λ q. d (rw (e, f) q)) in rw (le-leb 9 (length s) g, le-leb (length s) 30 h, n)

  pub at_place : w / 2 ^ (x % 32) % 2 ≡ 1 → field_at (place_of s) ≡ likely_of s
  unfolding likely_of
  at_place b = let n : eqb (begins s) 1 ≡ true = eq-eqb (begins s) 1 (rw (e, f) at b) in rw (le-leb 9 (length s) g, le-leb (length s) 30 h, n)

-- ---- THE LOOKUP: a name has its field at its place, and no other name is there
module _ (s : List ℕ) (k : ℕ) (e : k ≡ likely_of s) where
  only : (i : ℕ) → i < 72 → s ≡ name_of i → k ≡ i
  only i h q = e ∙ ap likely_of q ∙ place_at i h

  pub hit : k < 72 → same s (name_of k) ≡ true → answer k ≡ field_named s
  hit h q = sym (ap field_named (same_eq s (name_of k) q) ∙ found k h)

  pub miss : 72 ≤ k → (refusal 22 0) ≡ field_named s
  miss h = sym (no_name s (λ i l q. omega (arith, only i l q)))

  pub unlike : same s (name_of k) ≡ false → (refusal 22 0) ≡ field_named s
  unlike d =
      sym (no_name s (λ i l q.
      clash (sym (ap (same s) (ap name_of (only i l q) ∙ sym q) ∙ same_refl s) ∙ d)))
