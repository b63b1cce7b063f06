-- Fields one after another: what is stored in a part of a room, and the laws of a row of numbers, each of so many bytes, stored from a
-- place on: each stands where it was put, and they are the bytes that they were read from. By induction on the row. Assumes nothing.
use mathlib.Core.Path.{◌≡◌, refl, sym, ap, ◌∙◌}
use mathlib.Core.Bool.{Bool, true, false, true≢false, ◌&&◌}
use mathlib.Core.List.{List, [], ◌∷◌, ◌++◌, append-nil}
use Prim.Native.Nat.{ℕ, zero, suc, ◌+◌, ◌-◌, ◌/◌, ◌%◌, ◌^◌, ◌≤◌, ◌<◌}
use native.Mathlib.Nat.{mod-eq_of_lt, zero-add}
use native.Mathlib.Decide.{dec_lt}
use native.Mathlib.Omega.{arith}
use borrow.Author.Tests.{le-leb, leb-true}
use borrow.Rule.Slice.PartMut.{mid_of, post_of, put_mid, Post-is}
use lib.ListN.{length, take, drop, get_or, set, length-drop, take-append-drop}
use lib.Seq.{take_all, drop-length, take-set-le, drop-set-add}
use Rattle.meter.specs.Lent.{inside, wrote}
use Rattle.meter.specs.Integer.{be_at, stored, is_width, top_of, fits_unsigned}
use Rattle.meter.proofs.IntegerLaws.{back, again, stored_length, stored_before, stored_after, be_at_same}

-- ---- tests
pub both : (x y : Bool) → x && y ≡ true → (x ≡ true) × (y ≡ true)
both true y e = (refl, e)
both false y e = absurd (true≢false (sym e))

-- a part of a part that lies in a
pub part_inside : (a : List ℕ) (at n i m : ℕ) → inside a at n ≡ true → i + m ≤ n → inside a (at + i) m ≡ true
part_inside a at n i m e h = le-leb (at + i + m) (length a) (omega (arith, leb-true (at + n) (length a) e))

-- ---- a part of a room: what is stored at the start of the part is stored at its place in the room
stored_part : (r : List ℕ) (at n v : ℕ) → take at r ++ stored (drop at r) 0 n v ≡ stored r at n v
unfolding stored
stored_part r at zero v = take-append-drop at r
stored_part r at (suc n) v =
    let l : at ≤ at + n = omega arith in
    let d : drop at (set r (at + n) (v % 256)) ≡ set (drop at r) (0 + n) (v % 256) = drop-set-add at r n (v % 256) ∙ ap (λ (k : ℕ). set (drop at r) k (v % 256)) (sym (zero-add n)) in
    ap (λ (l : List ℕ). take at r ++ stored l 0 n (v / 256)) (sym d)
    ∙ ap (λ (l : List ℕ). l ++ stored (drop at (set r (at + n) (v % 256))) 0 n (v / 256)) (sym (take-set-le at r (at + n) (v % 256) l))
    ∙ stored_part (set r (at + n) (v % 256)) at n (v / 256)

mid_is : (r : List ℕ) (at : ℕ) → mid_of at (length r - at) r ≡ drop at r
mid_is r at = take_all (length r - at) (drop at r) (simp length-drop (omega arith))

pub put_part : (r l : List ℕ) (at n v : ℕ) (right : Bool) → right ≡ true → at + n ≤ length r → l ≡ wrote (mid_of at (length r - at) r) n right (stored (mid_of at (length r - at) r) 0 n v) → put_mid at (length r - at) r l ≡ stored r at n v
put_part r l at n v right t h e =
    let a : at ≤ length r = omega arith in
    let m = mid_is r at in
    let p : post_of at (length r - at) r ≡ [] = Post-is at (length r) r a ∙ drop-length r in
    let g : n ≤ length (drop at r) = simp length-drop (omega arith) in
    let w : l ≡ stored (drop at r) 0 n v = e ∙ rw (m, t, le-leb n (length (drop at r)) g) in
    ap (λ (q : List ℕ). take at r ++ (l ++ q)) p ∙ ap (λ (q : List ℕ). take at r ++ q) (append-nil l ∙ w) ∙ stored_part r at n v

pub word_fits : (v : ℕ) → v < 0x1_0000_0000 → fits_unsigned 4 v ≡ true
unfolding fits_unsigned is_width top_of
word_fits v h = le-leb v 0xffff_ffff (omega arith)

pub width_four : is_width 4 ≡ true
unfolding is_width
width_four = refl

-- ---- one byte
pub stored_one : (r : List ℕ) (at v : ℕ) → v < 256 → stored r at 1 v ≡ set r at v
unfolding stored
stored_one r at v h = let e : at + 0 ≡ at = omega arith in rw (e, mod-eq_of_lt h)

pub byte_is : (a : List ℕ) (at : ℕ) → be_at a at 1 ≡ get_or a at 0
unfolding be_at
byte_is a at = let e : at + 0 ≡ at = omega arith in rw e (omega arith)

-- ---- a row of fields: how many bytes, and their number
pub record Field : Type 0 where
  pub wide : ℕ
  pub value : ℕ

abbrev pub field : ℕ → ℕ → Field
field n v = record { wide = n; value = v }

abbrev pub width_of : List Field → ℕ
width_of [] = 0
width_of (f ∷ fs) = f.wide + width_of fs

-- a with the fields from i on
abbrev pub put : List ℕ → ℕ → List Field → List ℕ
put a i [] = a
put a i (f ∷ fs) = put (stored a i f.wide f.value) (i + f.wide) fs

-- the fields are the numbers in the bytes of t, from i after at on
abbrev pub Held : List ℕ → ℕ → ℕ → List Field → Type 0
Held t at i [] = Unit
Held t at i (f ∷ fs) = (f.value % 256 ^ f.wide ≡ be_at t (at + i) f.wide) × Held t at (i + f.wide) fs

pub put_length : (a : List ℕ) (i : ℕ) (fs : List Field) → length (put a i fs) ≡ length a
put_length a i [] = refl
put_length a i (f ∷ fs) = put_length (stored a i f.wide f.value) (i + f.wide) fs ∙ stored_length a i f.wide f.value

put_before : (a : List ℕ) (i : ℕ) (fs : List Field) (j : ℕ) → j < i → get_or (put a i fs) j 0 ≡ get_or a j 0
put_before a i [] j h = refl
put_before a i (f ∷ fs) j h =
    put_before (stored a i f.wide f.value) (i + f.wide) fs j (omega arith) ∙ stored_before a i f.wide f.value j h

pub put_after : (a : List ℕ) (i : ℕ) (fs : List Field) (j : ℕ) → i + width_of fs ≤ j → get_or (put a i fs) j 0 ≡ get_or a j 0
put_after a i [] j h = refl
put_after a i (f ∷ fs) j h =
    put_after (stored a i f.wide f.value) (i + f.wide) fs j (omega arith) ∙ stored_after a i f.wide f.value j (omega arith)

-- WHAT IS PUT IS HELD
pub put_held : (a : List ℕ) (i : ℕ) (fs : List Field) → i + width_of fs ≤ length a → Held (put a i fs) 0 i fs
put_held a i [] h = tt
put_held a i (f ∷ fs) h =
    let n = f.wide in
    let s = stored a i n f.value in
    let z : 0 + i ≡ i = zero-add i in
    let e : be_at (put s (i + n) fs) i n ≡ be_at s i n = be_at_same (put s (i + n) fs) s i i n (λ k l. put_before s (i + n) fs (i + k) (omega arith)) in
    (rw z (sym (e ∙ back a i n f.value (omega arith))), put_held s (i + n) fs (omega (arith, stored_length a i n f.value)))

-- WHAT IS HELD IS PUT BACK: the bytes of t
pub held_again : (a t : List ℕ) (at i : ℕ) (fs : List Field) → ((k : ℕ) → get_or t k 0 < 256) → i + width_of fs ≤ length a → Held t at i fs → (k : ℕ) → k < width_of fs → get_or (put a i fs) (i + k) 0 ≡ get_or t (at + i + k) 0
held_again a t at i [] b h e k l = absurd (omega arith)
held_again a t at i (f ∷ fs) b h (e, es) k l =
    go f.wide (stored a i f.wide f.value) (dec_lt k f.wide)
    (λ m. again a t i (at + i) f.wide f.value b (omega arith) e k m)
    (held_again (stored a i f.wide f.value) t at (i + f.wide) fs b (omega (arith, stored_length a i f.wide f.value)) es (k - f.wide)) l
  where
    go : (n : ℕ) (s : List ℕ) → Dec (k < n) → (k < n → get_or s (i + k) 0 ≡ get_or t (at + i + k) 0) → (k - n < width_of fs → get_or (put s (i + n) fs) (i + n + (k - n)) 0 ≡ get_or t (at + (i + n) + (k - n)) 0) → k < n + width_of fs → get_or (put s (i + n) fs) (i + k) 0 ≡ get_or t (at + i + k) 0
    go n s (yes m) own rest l = put_before s (i + n) fs (i + k) (omega arith) ∙ own m
    go n s (no d) own rest l =
        let x : i + n + (k - n) ≡ i + k = omega (arith, d) in
        let y : at + (i + n) + (k - n) ≡ at + i + k = omega (arith, d) in
        rw (x, y) at (rest (omega (arith, d)))

pub held_left : (t : List ℕ) (at i : ℕ) (fs gs : List Field) → Held t at i (fs ++ gs) → Held t at i fs
held_left t at i [] gs e = tt
held_left t at i (f ∷ fs) gs (e, es) = (e, held_left t at (i + f.wide) fs gs es)
