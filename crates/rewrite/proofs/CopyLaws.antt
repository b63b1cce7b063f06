-- Bytes into a room: two texts one after the other are one text; and a part of a text in place of a part of the room. Assumes nothing.
use Prim.Native.Nat.{ℕ, suc, ◌+◌, ◌-◌, ◌≤◌, ◌<◌}
use native.Mathlib.Omega.{arith}
use mathlib.Core.Path.{◌≡◌, refl, sym, ap, ◌∙◌}
use mathlib.Core.List.{List, [], ◌∷◌, ◌++◌, append_assoc}
use lib.ListN.{length, get_or, set, take, drop, length-set, length-take, length-drop, drop_of_length-le}
use borrow.Rule.Slice.PartMut.{put_mid, post_of, Post-is}
use Rattle.std.proofs.lemmas.List.Edits.{sets-eq}
use lib.Seq.{sets, drop-cons, get_or-take, get_or-drop}

-- ---- a text that is stored
pub sets_append : (room : List ℕ) (i : ℕ) (x y : List ℕ) → sets room i (x ++ y) ≡ sets (sets room i x) (i + length x) y
sets_append room i [] y = ap (λ (k : ℕ). sets room k y) (omega arith)
sets_append room i (b ∷ x) y = sets_append (set room i b) (suc i) x y ∙ ap (λ (k : ℕ). sets (sets (set room i b) (suc i) x) k y) (omega arith)

-- ---- a part of a text, put in place of a part of the room
pub part_long : (a : List ℕ) (from n : ℕ) → from + n ≤ length a → length (take n (drop from a)) ≡ n
part_long a from n h = simp (length-take, length-drop) (omega arith)

pub put_part : (room x : List ℕ) (at n : ℕ) → length x ≡ n → at + n ≤ length room → put_mid at (at + n - at) room x ≡ sets room at x
put_part room x at n e h =
    let after : post_of at (at + n - at) room ≡ drop (at + length x) room = rw e (Post-is at (at + n) room (omega arith)) in
    ap (λ (y : List ℕ). take at room ++ (x ++ y)) after
    ∙ sym (append_assoc (take at room) x (drop (at + length x) room))
    ∙ sym (sets-eq x room at (omega arith))

-- ---- copying, byte by byte: what is left of the text, put into the room as it is, gives the whole
pub record Copying (room₀ a : List ℕ) (from n at : ℕ) (room : List ℕ) (i : ℕ) : Type 0 where
  pub inside : from + n ≤ length a
  pub fits : at + n ≤ length room₀
  pub long : length room ≡ length room₀
  pub same : sets room (at + i) (drop i (take n (drop from a))) ≡ sets room₀ at (take n (drop from a))

pub copy_first : {room a : List ℕ} {from n at : ℕ} → from + n ≤ length a → at + n ≤ length room → Copying room a from n at room 0
copy_first {room} {a} {from} {n} {at} h l = record { inside = h; fits = l; long = refl; same = ap (λ (k : ℕ). sets room k (take n (drop from a))) (omega arith) }

pub copy_next : {room₀ room a : List ℕ} {from n at i : ℕ} → Copying room₀ a from n at room i → i < n → Copying room₀ a from n at (set room (at + i) (get_or a (from + i) 0)) (i + 1)
copy_next {room₀} {room} {a} {from} {n} {at} {i} c l =
    let x = get_or a (from + i) 0 in
    let t = take n (drop from a) in
    let u : suc i ≡ i + 1 = omega arith in
    let g : get_or t i 0 ≡ x = get_or-take n (drop from a) i 0 l ∙ get_or-drop from a i 0 in
    let d : drop i t ≡ x ∷ drop (i + 1) t = drop-cons t i 0 (omega (arith, part_long a from n c.inside)) ∙ ap (λ (y : ℕ). y ∷ drop (suc i) t) g ∙ ap (λ (k : ℕ). x ∷ drop k t) u in
    let k : at + (i + 1) ≡ suc (at + i) = omega arith in
    record {
      inside = c.inside;
      fits = c.fits;
      long = length-set room (at + i) x ∙ c.long;
      same = ap (λ (j : ℕ). sets (set room (at + i) x) j (drop (i + 1) t)) k ∙ ap (sets room (at + i)) (sym d) ∙ c.same;
    }

pub copy_last : {room₀ room a : List ℕ} {from n at i : ℕ} → Copying room₀ a from n at room i → n ≤ i → room ≡ sets room₀ at (take n (drop from a))
copy_last {room₀} {room} {a} {from} {n} {at} {i} c l =
    let t = take n (drop from a) in
    let e : drop i t ≡ [] = drop_of_length-le t {i = i} (omega (arith, part_long a from n c.inside)) in
    ap (sets room (at + i)) (sym e) ∙ c.same
