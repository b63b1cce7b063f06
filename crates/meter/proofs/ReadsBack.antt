-- READING BACK: what each writer of integers, short times and scaled numbers writes reads back as what was written, and what was read is
-- written back as the bytes that it was read from. By the two round trips of IntegerLaws, over the width. Assumes nothing.
use mathlib.Core.Path.{◌≡◌, refl, sym, ap, ◌∙◌}
use mathlib.Core.Bool.{Bool, true, false, cond, not, ◌&&◌, ◌||◌, true≢false}
use mathlib.Core.List.{List}
use Prim.Native.Nat.{ℕ, suc, ◌+◌, ◌-◌, ◌/◌, ◌^◌, ◌%◌, ◌≤◌, ◌<◌}
use native.Mathlib.Nat.{mod-eq_of_lt}
use native.Mathlib.Decide.{ℕ_discrete}
use native.Mathlib.Omega.{arith}
use borrow.Author.Tests.{le-leb, leb-true, eqb-true, not-true}
use lib.Dec.{eqb}
use lib.IntN.{ℤ, pos, negsuc}
use lib.ListN.{length, get_or}
use lib.Seq.{get_or-set_same}
use lib.Signed.{mag, lt_z, le_z}
use Rattle.calendar.specs.Said.{answer, refusal}
use Rattle.meter.specs.Lent.{inside, reads}
use Rattle.meter.specs.Integer.{be_at, stored, twos, word_of, is_width, top_of, half_of, fits_unsigned, fits_signed, unsigned_at, signed_at}
use Rattle.meter.specs.Time.{is_time, bits_of, time_of, time_at, time_read_at}
use Rattle.meter.specs.Scaled.{is_scale, lowest, highest, none_of, same, integer_of, is_none, is_defined, scaled_read_at, fits_defined, fits_scaled, put_scaled}
use Rattle.std.specs.declared.option.Option.TheVariants.{Some, None}
use Rattle.std.specs.declared.option.Option.{Option}
use Rattle.meter.specs.declared.time.Time.{Time}
use Rattle.meter.specs.declared.scaled.Scaled.{Scaled}
use Rattle.meter.specs.Numeral as S
use Rattle.meter.specs.Instant as T
use Rattle.meter.proofs.IntegerLaws.{Wide, wide_of, back, again, stored_length, stored_before, be_at_lt, word_cut, word_twos, unsigned_fits, signed_fits}
use Rattle.meter.proofs.ScaledLaws.{same_self, read_none, read_some}

-- what a reader that answers was given
pub reads_answer : {A : Type 0} (a : List ℕ) (at n : ℕ) (right : Bool) (v x : A) → reads a at n right v ≡ answer x → (inside a at n ≡ true) × (right ≡ true) × (v ≡ x)
reads_answer a at n right v x e = go (inside a at n) refl right refl e
  where
    go : (b : Bool) → inside a at n ≡ b → (c : Bool) → right ≡ c → cond b (cond c (answer v) (refusal 21 0)) (refusal 20 (length a)) ≡ answer x → (inside a at n ≡ true) × (right ≡ true) × (v ≡ x)
    go true i true r e = (i, r, cc)
    go true i false r e = let z : ◌≡◌ {A = ℕ} 0 1 = cc in absurd (omega arith)
    go false i c r e = let z : ◌≡◌ {A = ℕ} 0 1 = cc in absurd (omega arith)

-- ---- integers
stored_inside : (a : List ℕ) (n v : ℕ) → n ≤ length a → inside (stored a 0 n v) 0 n ≡ true
stored_inside a n v h = le-leb (0 + n) (length (stored a 0 n v)) (omega (arith, stored_length a 0 n v))

pub unsigned_back : (a : List ℕ) (n v : ℕ) → fits_unsigned n v ≡ true → n ≤ length a → unsigned_at (stored a 0 n v) 0 n ≡ answer v
unsigned_back a n v f h =
    let w = unsigned_fits n v f in
    let e : be_at (stored a 0 n v) 0 n ≡ v = back a 0 n v (omega arith) ∙ mod-eq_of_lt w.1 in
    rw (stored_inside a n v h, w.0, e)

pub signed_back : (a : List ℕ) (n : ℕ) (z : ℤ) → fits_signed n z ≡ true → n ≤ length a → signed_at (stored a 0 n (word_of z)) 0 n ≡ answer z
signed_back a n z f h =
    let w = signed_fits n z f in
    let e : twos (half_of n) (be_at (stored a 0 n (word_of z)) 0 n) ≡ z = ap (twos (half_of n)) (back a 0 n (word_of z) (omega arith)) ∙ word_cut n (half_of n) (wide_of n w.0).small (wide_of n w.0).halves z w.1 in
    rw (stored_inside a n (word_of z) h, w.0, e)

module _ (room b : List ℕ) (at n : ℕ) (bytes : (k : ℕ) → get_or b k 0 < 256) (h : n ≤ length room) where
  pub unsigned_again : (v : ℕ) → unsigned_at b at n ≡ answer v → (k : ℕ) → k < n → get_or (stored room 0 n v) k 0 ≡ get_or b (at + k) 0
  unsigned_again v e k l =
      let r = reads_answer b at n (is_width n) (be_at b at n) v e in
      let m : v % 256 ^ n ≡ be_at b at n = ap (λ (j : ℕ). j % 256 ^ n) (sym r.2) ∙ mod-eq_of_lt (be_at_lt b bytes at n) in
      let z : 0 + k ≡ k = omega arith in
      rw z at (again room b 0 at n v bytes (omega arith) m k l)

  pub signed_again : (z : ℤ) → signed_at b at n ≡ answer z → (k : ℕ) → k < n → get_or (stored room 0 n (word_of z)) k 0 ≡ get_or b (at + k) 0
  signed_again z e k l =
      let r = reads_answer b at n (is_width n) (twos (half_of n) (be_at b at n)) z e in
      let w = wide_of n r.1 in
      let m : word_of z % 256 ^ n ≡ be_at b at n = ap (λ (y : ℤ). word_of y % 256 ^ n) (sym r.2) ∙ word_twos n (half_of n) (be_at b at n) w.small w.halves (be_at_lt b bytes at n) in
      let o : 0 + k ≡ k = omega arith in
      rw o at (again room b 0 at n (word_of z) bytes (omega arith) m k l)

-- ---- short times
bits_of_time : (bits : ℕ) → bits_of (time_of bits) ≡ bits
bits_of_time bits = go (eqb bits 0xffff_ffff_ffff) refl
  where
    go : (b : Bool) → eqb bits 0xffff_ffff_ffff ≡ b → bits_of (cond b None (T.At (bits / 0x1_0000_0000) (bits % 0x1_0000_0000))) ≡ bits
    go true e = sym (eqb-true bits 0xffff_ffff_ffff e)
    go false e = omega arith

pub time_again : (room b : List ℕ) (at : ℕ) (t : Option Time) → ((k : ℕ) → get_or b k 0 < 256) → 6 ≤ length room → time_read_at b at ≡ answer t → (k : ℕ) → k < 6 → get_or (stored room 0 6 (bits_of t)) k 0 ≡ get_or b (at + k) 0
time_again room b at t bytes h e k l =
    let r = reads_answer b at 6 (is_time (time_at b at)) (time_at b at) t e in
    let m : bits_of t % 256 ^ 6 ≡ be_at b at 6 = ap (λ (u : Option Time). bits_of u % 256 ^ 6) (sym r.2) ∙ ap (λ (j : ℕ). j % 256 ^ 6) (bits_of_time (be_at b at 6)) ∙ mod-eq_of_lt (be_at_lt b bytes at 6) in
    let z : 0 + k ≡ k = omega arith in
    rw z at (again room b 0 at 6 (bits_of t) bytes h m k l)

-- ---- scaled numbers
-- an integer of its width comes back from its bytes
in_width : (signed : Bool) (n : ℕ) (i : ℤ) → Wide n → le_z (lowest signed n) i ≡ true → le_z i (highest signed n) ≡ true → integer_of signed n (word_of i % 256 ^ n) ≡ i
unfolding integer_of lowest highest word_of
in_width true n (pos k) w l h = word_cut n (half_of n) w.small w.halves (pos k) (omega (arith, leb-true k (half_of n - 1) h, w.some))
in_width true n (negsuc k) w l h = word_cut n (half_of n) w.small w.halves (negsuc k) (omega (arith, leb-true k (half_of n - 1) l, w.some))
in_width false n (pos k) w l h = ap pos (mod-eq_of_lt (omega (arith, leb-true k (top_of n) h, w.top)))
in_width false n (negsuc k) w l h = absurd (true≢false (sym l))

none_in_width : (signed : Bool) (n : ℕ) → Wide n → (le_z (lowest signed n) (none_of signed n) ≡ true) × (le_z (none_of signed n) (highest signed n) ≡ true)
unfolding none_of lowest highest
none_in_width true n w = let e : half_of n - 1 ≤ half_of n - 1 = omega arith in (le-leb (half_of n - 1) (half_of n - 1) e, refl)
none_in_width false n w = let e : top_of n ≤ top_of n = omega arith in (le-leb 0 (top_of n) (omega arith), le-leb (top_of n) (top_of n) e)

small_scale : (s : ℤ) → is_scale s ≡ true → mag s < 128
unfolding is_scale
small_scale (pos k) e = omega (arith, leb-true k 15 e)
small_scale (negsuc k) e = omega (arith, leb-true (suc k) 15 e)

first_byte : (a : List ℕ) (n s w : ℕ) → 1 + n ≤ length a → get_or (stored (stored a 0 1 s) 1 n w) 0 0 ≡ s % 256
unfolding stored
first_byte a n s w h = stored_before (stored a 0 1 s) 1 n w 0 (omega arith) ∙ get_or-set_same a 0 (s % 256) 0 (omega arith)

module _ (signed : Bool) (n : ℕ) (a : List ℕ) (h : 1 + n ≤ length a) (w : is_width n ≡ true) (s v : ℕ) where
  parts_inside : inside (stored (stored a 0 1 s) 1 n v) 0 (1 + n) ≡ true
  parts_inside = le-leb (0 + (1 + n)) (length (stored (stored a 0 1 s) 1 n v)) (omega (arith, stored_length (stored a 0 1 s) 1 n v, stored_length a 0 1 s))

  parts_word : be_at (stored (stored a 0 1 s) 1 n v) 1 n ≡ v % 256 ^ n
  parts_word = back (stored a 0 1 s) 1 n v (omega (arith, stored_length a 0 1 s))

both : (x y : Bool) → x && y ≡ true → (x ≡ true) × (y ≡ true)
both true y e = (refl, e)
both false y e = absurd (true≢false (sym e))

number_back : (signed : Bool) (n : ℕ) (a : List ℕ) (i s : ℤ) → 1 + n ≤ length a → is_width n ≡ true → fits_defined signed n i s ≡ true → scaled_read_at signed n (put_scaled signed n a (S.Number i s)) 0 ≡ answer (S.Number i s)
unfolding fits_defined
number_back signed n a i s h w g =
    let W = wide_of n w in
    let L = le_z (lowest signed n) i && le_z i (highest signed n) in
    let M = not (same i (none_of signed n)) in
    let B = lt_z i (pos 0x8000_0000_0000_0000) in
    let p = both (is_scale s) ((L && M) && B) g in
    let q = both (L && M) B p.1 in
    let r = both L M q.0 in
    let l = both (le_z (lowest signed n) i) (le_z i (highest signed n)) r.0 in
    let c = stored (stored a 0 1 (word_of s)) 1 n (word_of i) in
    let e : integer_of signed n (be_at c 1 n) ≡ i = ap (integer_of signed n) (parts_word signed n a h w (word_of s) (word_of i)) ∙ in_width signed n i W l.0 l.1 in
    let k : twos 128 (get_or c 0 0) ≡ s = ap (twos 128) (first_byte a n (word_of s) (word_of i) h) ∙ word_cut 1 128 (omega arith) refl s (small_scale s p.0) in
    let d : same i (none_of signed n) ≡ false = not-true (same i (none_of signed n)) r.1 in
    read_some signed n c 0 (parts_inside signed n a h w (word_of s) (word_of i)) w (ap (λ (y : ℤ). same y (none_of signed n)) e ∙ d) ∙ rw (e, k, p.0, q.1)

pub scaled_back : (signed : Bool) (n : ℕ) (a : List ℕ) (x : Option Scaled) → fits_scaled signed n x ≡ true → 1 + n ≤ length a → scaled_read_at signed n (put_scaled signed n a x) 0 ≡ answer x
scaled_back signed n a None f h =
    let W = wide_of n f in
    let g = none_in_width signed n W in
    let v = word_of (none_of signed n) in
    let e : integer_of signed n (be_at (stored (stored a 0 1 0) 1 n v) 1 n) ≡ none_of signed n = ap (integer_of signed n) (parts_word signed n a h f 0 v) ∙ in_width signed n (none_of signed n) W g.0 g.1 in
    read_none signed n (stored (stored a 0 1 0) 1 n v) 0 (parts_inside signed n a h f 0 v) f (ap (λ (y : ℤ). same y (none_of signed n)) e ∙ same_self (none_of signed n))
scaled_back signed n a (Some t) f h = number (both (is_width n) (fits_defined signed n t.integer t.scale) f)
  where
    number : (is_width n ≡ true) × (fits_defined signed n t.integer t.scale ≡ true) → scaled_read_at signed n (put_scaled signed n a (S.Number t.integer t.scale)) 0 ≡ answer (S.Number t.integer t.scale)
    number (w, g) = number_back signed n a t.integer t.scale h w g

-- and what was read, where it is defined, is written back as it stood
word_again : (signed : Bool) (n v : ℕ) → Wide n → v < 256 ^ n → word_of (integer_of signed n v) % 256 ^ n ≡ v
unfolding integer_of word_of
word_again true n v w h = word_twos n (half_of n) v w.small w.halves h
word_again false n v w h = mod-eq_of_lt h

-- the integer and the scale of a number that is defined
abbrev integer_said : Option Scaled → ℤ
integer_said (Some n) = n.integer
integer_said None = pos 0

abbrev scale_said : Option Scaled → ℤ
scale_said (Some n) = n.scale
scale_said None = pos 0

number_of : (b : Bool) (i j s t : ℤ) → cond b None (S.Number i s) ≡ S.Number j t → (i ≡ j) × (s ≡ t)
number_of true i j s t e = let z : ◌≡◌ {A = ℕ} 0 1 = cc in absurd (omega arith)
number_of false i j s t e = (ap (λ (x : Option Scaled). integer_said x) e, ap (λ (x : Option Scaled). scale_said x) e)

pub scaled_again : (signed : Bool) (n : ℕ) (room b : List ℕ) (at : ℕ) (i s : ℤ) → ((k : ℕ) → get_or b k 0 < 256) → 1 + n ≤ length room → scaled_read_at signed n b at ≡ answer (S.Number i s) → (k : ℕ) → k < 1 + n → get_or (put_scaled signed n room (S.Number i s)) k 0 ≡ get_or b (at + k) 0
scaled_again signed n room b at i s bytes h e k l =
    let v = be_at b (at + 1) n in
    let c = twos 128 (get_or b at 0) in
    let r = reads_answer b at (1 + n) (is_width n && (is_none signed n v || is_defined signed n v c)) _ (S.Number i s) e in
    let w = (both (is_width n) (is_none signed n v || is_defined signed n v c) r.1).0 in
    let g = number_of (is_none signed n v) (integer_of signed n v) i c s r.2 in
    let small = be_at_lt b bytes (at + 1) n in
    let m : word_of i % 256 ^ n ≡ v = ap (λ (y : ℤ). word_of y % 256 ^ n) (sym g.0) ∙ word_again signed n v (wide_of n w) small in
    let f : word_of s % 256 ≡ get_or b at 0 = ap (λ (y : ℤ). word_of y % 256) (sym g.1) ∙ word_twos 1 128 (get_or b at 0) (omega arith) refl (bytes at) in
    go m f (ℕ_discrete k 0)
  where
    go : word_of i % 256 ^ n ≡ be_at b (at + 1) n → word_of s % 256 ≡ get_or b at 0 → Dec (k ≡ 0) → get_or (put_scaled signed n room (S.Number i s)) k 0 ≡ get_or b (at + k) 0
    go m f (yes z) =
        let q : at + k ≡ at = omega arith in
        rw (q, z) (first_byte room n (word_of s) (word_of i) h ∙ f)
    go m f (no d) =
        let x : 1 + (k - 1) ≡ k = omega (arith, d) in
        let y : at + 1 + (k - 1) ≡ at + k = omega (arith, d) in
        rw (x, y) at (again (stored room 0 1 (word_of s)) b 1 (at + 1) n (word_of i) bytes (omega (arith, stored_length room 0 1 (word_of s))) m (k - 1) (omega (arith, d)))
