-- Items stored one after the other: a run of them after another run, and what the room then holds. By induction on the items. Assumes nothing.
use mathlib.Core.Path.{◌≡◌, refl, sym, ◌∙◌}
use mathlib.Core.List.{List, [], ◌∷◌, ◌++◌, append_assoc}
use Prim.Native.Nat.{ℕ, suc, ◌+◌, ◌≤◌, ◌<◌}
use native.Mathlib.Numerals.{add-one}
use native.Mathlib.Omega.{arith}
use lib.ListN.{length, take, drop, set, length-set, take-append-drop}
use lib.Seq.{take-suc-set, drop-set-lt}
use Rattle.uth.specs.Blocks.{put_all}

module _ {A : Type 0} where
  pub put_length : (room : List A) (i : ℕ) (l : List A) → length (put_all room i l) ≡ length room
  unfolding put_all
  put_length room i [] = refl
  put_length room i (x ∷ l) = put_length (set room i x) (i + 1) l ∙ simp length-set

  pub put_append : (room : List A) (i : ℕ) (x y : List A) → put_all room i (x ++ y) ≡ put_all (put_all room i x) (i + length x) y
  unfolding put_all
  put_append room i [] y = let e : i + 0 ≡ i = omega arith in rw e
  put_append room i (a ∷ x) y = let e : i + 1 + length x ≡ i + suc (length x) = omega arith in put_append (set room i a) (i + 1) x y ∙ rw e

  -- the items from place i on, and every other place kept
  pub put_from : (room : List A) (i : ℕ) (l : List A) → i + length l ≤ length room → put_all room i l ≡ take i room ++ (l ++ drop (i + length l) room)
  unfolding put_all
  put_from room i [] h = let e : i + 0 ≡ i = omega arith in rw e (sym (take-append-drop i room))
  put_from room i (x ∷ l) h =
      let s : i + suc (length l) ≡ i + 1 + length l = omega arith in
      let m : i < i + 1 + length l = omega arith in
      let r : i < length room = omega arith in
      put_from (set room i x) (i + 1) l (simp length-set (omega arith))
      ∙ rw (drop-set-lt (i + 1 + length l) room i x m, add-one i, take-suc-set room i x r) (append_assoc (take i room) (x ∷ []) (l ++ drop (suc i + length l) room) ∙ rw (s, add-one i))

  pub put_all_lem : (room l : List A) → length l ≤ length room → put_all room 0 l ≡ l ++ drop (length l) room
  put_all_lem room l h = let e : 0 + length l ≡ length l = omega arith in put_from room 0 l (omega arith) ∙ rw e
