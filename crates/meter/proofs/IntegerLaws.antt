-- The laws of big-endian integers, over the number of bytes: their bound, what is kept and that what is stored reads back, unsigned and
-- in two's complement; each by induction on the bytes. Assumes nothing.
use mathlib.Core.Path.{◌≡◌, refl, sym, ap, ◌∙◌, subst}
use mathlib.Core.Bool.{Bool, true, false, true≢false, ◌&&◌, ◌||◌}
use mathlib.Core.Logic.{◌⊎◌, inl, inr}
use mathlib.Core.List.{List}
use Prim.Native.Nat.{ℕ, zero, suc, ◌+◌, ◌-◌, ◌*◌, ◌/◌, ◌%◌, ◌^◌, ◌≤◌, ◌<◌}
use native.Mathlib.Nat.{mod-eq_of_lt, mul-add-mod_self_right, suc-mul, pow-suc, pow-le-pow_right, one-le-pow, lt_of_lt_of_le, mod-one, mod-lt}
use native.Mathlib.Decide.{ℕ_discrete}
use native.Mathlib.Omega.{arith}
use borrow.Author.Tests.{lt-ltb, le-ltb, ltb-true, ltb-false, eqb-true, leb-true, leb-false, le-leb, lt-leb}
use lib.Arith.{mod-mul}
use lib.Dec.{lit<, eqb, leb, ltb}
use lib.IntN.{ℤ, pos, negsuc, nat_abs}
use lib.ListN.{length, get_or, set, length-set}
use lib.Pow.{pow-add}
use lib.Seq.{get_or-set_same, get_or-set_other}
use lib.Signed.{mag, lt_z}
use mir.Syntax.{w64}
use mir.Val.{SFits, to_z, of_z}
use mir.ValLaws.{to_z-of_z}
use Rattle.meter.specs.Integer.{be_at, stored, twos, word_of, is_width, top_of, half_of, fits_unsigned, fits_signed}
use Rattle.meter.proofs.Signs.{tested}

-- n bytes are below 256 ^ n
pub be_at_lt : (s : List ℕ) → ((k : ℕ) → get_or s k 0 < 256) → (at n : ℕ) → be_at s at n < 256 ^ n
unfolding be_at
be_at_lt s b at zero = lit< tt
be_at_lt s b at (suc n) = rw pow-suc (omega (arith, be_at_lt s b at n, b (at + n)))

pub be_at_le : (s : List ℕ) → ((k : ℕ) → get_or s k 0 < 256) → (at n m : ℕ) → n ≤ m → be_at s at n < 256 ^ m
be_at_le s b at n m h = lt_of_lt_of_le (be_at_lt s b at n) (pow-le-pow_right (lit< tt) h)

-- ---- what is stored: the length, each other byte, and the number that reads back
pub stored_length : (s : List ℕ) (at n v : ℕ) → length (stored s at n v) ≡ length s
unfolding stored
stored_length s at zero v = refl
stored_length s at (suc n) v = stored_length (set s (at + n) (v % 256)) at n (v / 256) ∙ length-set s (at + n) (v % 256)

pub stored_before : (s : List ℕ) (at n v j : ℕ) → j < at → get_or (stored s at n v) j 0 ≡ get_or s j 0
unfolding stored
stored_before s at zero v j h = refl
stored_before s at (suc n) v j h =
    stored_before (set s (at + n) (v % 256)) at n (v / 256) j h ∙ get_or-set_other s (at + n) j (v % 256) 0 (λ e. omega arith)

pub stored_after : (s : List ℕ) (at n v j : ℕ) → at + n ≤ j → get_or (stored s at n v) j 0 ≡ get_or s j 0
unfolding stored
stored_after s at zero v j h = refl
stored_after s at (suc n) v j h =
    stored_after (set s (at + n) (v % 256)) at n (v / 256) j (omega arith) ∙ get_or-set_other s (at + n) j (v % 256) 0 (λ e. omega arith)

-- THE ROUND TRIP: what is stored reads back, cut to its n bytes
pub back : (s : List ℕ) (at n v : ℕ) → at + n ≤ length s → be_at (stored s at n v) at n ≡ v % 256 ^ n
unfolding be_at stored
back s at zero v h = sym (mod-one v)
back s at (suc n) v h =
    let t = set s (at + n) (v % 256) in
    let low : get_or (stored t at n (v / 256)) (at + n) 0 ≡ v % 256 = stored_after t at n (v / 256) (at + n) (omega arith) ∙ get_or-set_same s (at + n) (v % 256) 0 (omega arith) in
    let high : be_at (stored t at n (v / 256)) at n ≡ v / 256 % 256 ^ n = back t at n (v / 256) (simp length-set (omega arith)) in
    rw (high, low, pow-suc) (sym (mod-mul v {m = 256 ^ n} {c = 256} (one-le-pow n 256 (lit< tt)) (lit< tt)))

-- one more byte, from the last to the first
pub stored_step : (s : List ℕ) (at i v : ℕ) → 0 < i → stored s at i v ≡ stored (set s (at + (i - 1)) (v % 256)) at (i - 1) (v / 256)
unfolding stored
stored_step s at zero v h = absurd (omega arith)
stored_step s at (suc k) v h = let e : suc k - 1 ≡ k = omega arith in rw e

pub stored_none : (s : List ℕ) (at i v : ℕ) → i ≡ 0 → stored s at i v ≡ s
unfolding stored
stored_none s at zero v e = refl
stored_none s at (suc i) v e = absurd (omega arith)

-- the number of the bytes of s depends on those bytes alone
pub be_at_same : (s t : List ℕ) (i j n : ℕ) → ((k : ℕ) → k < n → get_or s (i + k) 0 ≡ get_or t (j + k) 0) → be_at s i n ≡ be_at t j n
unfolding be_at
be_at_same s t i j zero e = refl
be_at_same s t i j (suc n) e = rw (be_at_same s t i j n (λ k h. e k (omega arith)), e n (omega arith))

-- and what stands before or after what is stored reads as before
pub be_at_beside : (s : List ℕ) (at n v i m : ℕ) → (i + m ≤ at) ⊎ (at + n ≤ i) → be_at (stored s at n v) i m ≡ be_at s i m
be_at_beside s at n v i m (inl h) = be_at_same (stored s at n v) s i i m (λ k l. stored_before s at n v (i + k) (omega arith))
be_at_beside s at n v i m (inr h) = be_at_same (stored s at n v) s i i m (λ k l. stored_after s at n v (i + k) (omega arith))

-- ---- the bytes of a number: two parts with the same number have the same bytes
pub stored_byte : (s : List ℕ) (at n v j : ℕ) → at + n ≤ length s → at ≤ j → j < at + n → get_or (stored s at n v) j 0 < 256
unfolding stored
stored_byte s at zero v j r h l = absurd (omega arith)
stored_byte s at (suc n) v j r h l =
    go (ℕ_discrete j (at + n)) (stored_byte (set s (at + n) (v % 256)) at n (v / 256) j (simp length-set (omega arith)) h)
  where
    go : Dec (j ≡ at + n) → (j < at + n → get_or (stored (set s (at + n) (v % 256)) at n (v / 256)) j 0 < 256) → get_or (stored (set s (at + n) (v % 256)) at n (v / 256)) j 0 < 256
    go (yes e) r' = rw (stored_after (set s (at + n) (v % 256)) at n (v / 256) j (omega arith), e, get_or-set_same s (at + n) (v % 256) 0 (omega arith)) (mod-lt v (lit< tt))
    go (no d) r' = r' (omega (arith, d))

pub bytes_same : (s t : List ℕ) (i j n : ℕ) → ((k : ℕ) → k < n → get_or s (i + k) 0 < 256) → ((k : ℕ) → k < n → get_or t (j + k) 0 < 256) → be_at s i n ≡ be_at t j n → (k : ℕ) → k < n → get_or s (i + k) 0 ≡ get_or t (j + k) 0
unfolding be_at
bytes_same s t i j zero p q e k h = absurd (omega arith)
bytes_same s t i j (suc n) p q e k h = go (ℕ_discrete k n) (bytes_same s t i j n (λ k l. p k (omega arith)) (λ k l. q k (omega arith)) high k)
  where
    high : be_at s i n ≡ be_at t j n
    high = omega (arith, e, p n (omega arith), q n (omega arith))

    go : Dec (k ≡ n) → (k < n → get_or s (i + k) 0 ≡ get_or t (j + k) 0) → get_or s (i + k) 0 ≡ get_or t (j + k) 0
    go (yes m) r = rw m (omega (arith, e, high))
    go (no d) r = r (omega (arith, d))

-- THE OTHER ROUND TRIP: the number that was read stores the bytes that it was read from
pub again : (s t : List ℕ) (at i n v : ℕ) → ((k : ℕ) → get_or t k 0 < 256) → at + n ≤ length s → v % 256 ^ n ≡ be_at t i n → (k : ℕ) → k < n → get_or (stored s at n v) (at + k) 0 ≡ get_or t (i + k) 0
again s t at i n v b r e =
    bytes_same (stored s at n v) t at i n (λ k l. stored_byte s at n v (at + k) r (omega arith) (omega arith)) (λ k l. b (i + k)) (back s at n v r ∙ e)

-- ---- two's complement
pub twos_low : (half v : ℕ) → v < half → twos half v ≡ pos v
unfolding twos
twos_low half v h = simp (lt-ltb v half h)

pub twos_high : (half v : ℕ) → half ≤ v → v < half + half → twos half v ≡ negsuc (half - 1 - (v - half))
unfolding twos
twos_high half v h k = simp (le-ltb v half h, lt-ltb v (half + half) k) (ap negsuc (omega arith))

-- c * P less k + 1, cut to P
cut : (c P k : ℕ) → 0 < c → k < P → (c * P - suc k) % P ≡ P - suc k
cut zero P k h l = absurd (omega arith)
cut (suc c) P k h l =
    let e : suc c * P - suc k ≡ c * P + (P - suc k) = omega (arith, suc-mul c P) in
    ap (λ (n : ℕ). n % P) e ∙ mul-add-mod_self_right c P (P - suc k) ∙ mod-eq_of_lt (omega arith)

word_below : (n : ℕ) → n ≤ 8 → (k : ℕ) → k < 256 ^ n → (0x1_0000_0000_0000_0000 - suc k) % 256 ^ n ≡ 256 ^ n - suc k
word_below n h k l =
    let P = 256 ^ n in
    let w : 256 ^ (8 - n) * P ≡ 0x1_0000_0000_0000_0000 = let s : 8 - n + n ≡ 8 = omega arith in sym (pow-add 256 (8 - n) n) ∙ ap (λ (i : ℕ). 256 ^ i) s in
    ap (λ (i : ℕ). (i - suc k) % P) (sym w) ∙ cut (256 ^ (8 - n)) P k (one-le-pow (8 - n) 256 (lit< tt)) l

-- the bits of z, cut to n bytes, stand for z where it fits
pub word_cut : (n half : ℕ) → n ≤ 8 → half + half ≡ 256 ^ n → (z : ℤ) → mag z < half → twos half (word_of z % 256 ^ n) ≡ z
unfolding word_of
word_cut n half h e (pos k) l = ap (twos half) (mod-eq_of_lt {n = k} {m = 256 ^ n} (omega arith)) ∙ twos_low half k l
word_cut n half h e (negsuc k) l =
    ap (twos half) (word_below n h k (omega arith)) ∙ twos_high half (256 ^ n - suc k) (omega arith) (omega arith) ∙ ap negsuc (omega arith)

-- and the bits of what v stands for are v again
pub word_twos : (n half v : ℕ) → n ≤ 8 → half + half ≡ 256 ^ n → v < 256 ^ n → word_of (twos half v) % 256 ^ n ≡ v
unfolding word_of
word_twos n half v h e l = go (ltb v half) refl
  where
    go : (b : Bool) → ltb v half ≡ b → word_of (twos half v) % 256 ^ n ≡ v
    go true t = ap (λ (z : ℤ). word_of z % 256 ^ n) (twos_low half v (ltb-true v half t)) ∙ mod-eq_of_lt l
    go false t =
        let g = ltb-false v half t in
        let m = half - 1 - (v - half) in
        ap (λ (z : ℤ). word_of z % 256 ^ n) (twos_high half v g (omega arith)) ∙ word_below n h m (omega arith) ∙ omega arith

pub word_neg : (z : ℤ) → SFits w64 z → lt_z (to_z w64 (of_z w64 z)) (pos 0) ≡ true → 0xffff_ffff_ffff_ffff - (nat_abs z - 1) ≡ word_of z
unfolding word_of
word_neg z f t = go z (tested z f true t)
  where
    go : (z : ℤ) → lt_z z (pos 0) ≡ true → 0xffff_ffff_ffff_ffff - (nat_abs z - 1) ≡ word_of z
    go (pos n) t = absurd (omega (arith, ltb-true n 0 t))
    go (negsuc n) t = omega arith

pub word_pos : (z : ℤ) → SFits w64 z → lt_z (to_z w64 (of_z w64 z)) (pos 0) ≡ false → nat_abs (to_z w64 (of_z w64 z)) ≡ word_of z
unfolding word_of
word_pos z f t = ap nat_abs (to_z-of_z w64 z f) ∙ go z (tested z f false t)
  where
    go : (z : ℤ) → lt_z z (pos 0) ≡ false → nat_abs z ≡ word_of z
    go (pos n) t = refl
    go (negsuc n) t = absurd (true≢false t)

-- ---- the widths
pub record Wide (n : ℕ) : Type 0 where
  pub small : n ≤ 8
  pub halves : half_of n + half_of n ≡ 256 ^ n
  pub some : 0 < half_of n
  pub fits : half_of n ≤ 2 ^ 63
  pub top : top_of n + 1 ≡ 256 ^ n

pub width_is : (n : ℕ) → is_width n ≡ true → (n ≡ 2) ⊎ ((n ≡ 4) ⊎ (n ≡ 8))
unfolding is_width
width_is n e = go (eqb n 2) refl (eqb n 4) refl (eqb n 8) refl e
  where
    go : (a : Bool) → eqb n 2 ≡ a → (b : Bool) → eqb n 4 ≡ b → (c : Bool) → eqb n 8 ≡ c → a || (b || c) ≡ true → (n ≡ 2) ⊎ ((n ≡ 4) ⊎ (n ≡ 8))
    go true p b q c r t = inl (eqb-true n 2 p)
    go false p true q c r t = inr (inl (eqb-true n 4 q))
    go false p false q true r t = inr (inr (eqb-true n 8 r))
    go false p false q false r t = absurd (true≢false (sym t))

wide : (n : ℕ) → (n ≡ 2) ⊎ ((n ≡ 4) ⊎ (n ≡ 8)) → Wide n
unfolding half_of top_of
wide n (inl e) = subst Wide (sym e) (record { small = lit< tt; halves = refl; some = lit< tt; fits = lit< tt; top = refl })
wide n (inr (inl e)) = subst Wide (sym e) (record { small = lit< tt; halves = refl; some = lit< tt; fits = lit< tt; top = refl })
wide n (inr (inr e)) = subst Wide (sym e) (record { small = lit< tt; halves = refl; some = lit< tt; fits = lit< tt; top = refl })

pub wide_of : (n : ℕ) → is_width n ≡ true → Wide n
wide_of n e = wide n (width_is n e)

pub is_eight : (n : ℕ) → is_width n ≡ true → (n ≡ 2 → ⊥) → (n ≡ 4 → ⊥) → n ≡ 8
is_eight n e a b = go (width_is n e)
  where
    go : (n ≡ 2) ⊎ ((n ≡ 4) ⊎ (n ≡ 8)) → n ≡ 8
    go (inl p) = absurd (a p)
    go (inr (inl p)) = absurd (b p)
    go (inr (inr p)) = p

-- ---- the tests of the code
pub rest_holds : (len at n : ℕ) → at ≤ len → leb n (len - at) ≡ leb (at + n) len
rest_holds len at n h = go (leb n (len - at)) refl
  where
    go : (b : Bool) → leb n (len - at) ≡ b → b ≡ leb (at + n) len
    go true e = sym (le-leb (at + n) len (omega (arith, leb-true n (len - at) e)))
    go false e = sym (lt-leb (at + n) len (omega (arith, leb-false n (len - at) e)))

pub size_neg : (z : ℤ) (h : ℕ) → lt_z z (pos 0) ≡ true → leb (nat_abs z) h ≡ ltb (mag z) h
size_neg (pos n) h t = absurd (omega (arith, ltb-true n 0 t))
size_neg (negsuc n) h t = go (ltb n h) refl
  where
    go : (b : Bool) → ltb n h ≡ b → leb (suc n) h ≡ b
    go true e = le-leb (suc n) h (ltb-true n h e)
    go false e = lt-leb (suc n) h (omega (arith, ltb-false n h e))

pub size_pos : (z : ℤ) (h : ℕ) → lt_z z (pos 0) ≡ false → ltb (nat_abs z) h ≡ ltb (mag z) h
size_pos (pos n) h t = refl
size_pos (negsuc n) h t = absurd (true≢false t)

-- ---- what is written reads back
pub unsigned_fits : (n v : ℕ) → fits_unsigned n v ≡ true → (is_width n ≡ true) × (v < 256 ^ n)
unfolding fits_unsigned
unsigned_fits n v e = go (is_width n) refl e
  where
    go : (b : Bool) → is_width n ≡ b → b && leb v (top_of n) ≡ true → (is_width n ≡ true) × (v < 256 ^ n)
    go true w t = (w, omega (arith, leb-true v (top_of n) t, (wide_of n w).top))
    go false w t = absurd (true≢false (sym t))

pub signed_fits : (n : ℕ) (z : ℤ) → fits_signed n z ≡ true → (is_width n ≡ true) × (mag z < half_of n)
unfolding fits_signed
signed_fits n z e = go (is_width n) refl e
  where
    go : (b : Bool) → is_width n ≡ b → b && ltb (mag z) (half_of n) ≡ true → (is_width n ≡ true) × (mag z < half_of n)
    go true w t = (w, ltb-true (mag z) (half_of n) t)
    go false w t = absurd (true≢false (sym t))
