-- THE LINES, by the bytes that their writers write: each is of its width and 33 bytes, and stands in the main header where line k starts. Assumes nothing.
use mathlib.Core.Path.{◌≡◌, ◌∙◌}
use mathlib.Core.Bool.{Bool, true, ◌&&◌}
use mathlib.Core.List.{List, [], ◌∷◌}
use Prim.Native.Nat.{ℕ, zero, suc, ◌+◌, ◌≤◌, ◌<◌}
use native.Mathlib.Omega.{arith}
use borrow.Author.Tests.{le-leb}
use lib.Dec.{leb}
use lib.ListN.{length, get_or, take, drop, length-append, length-drop}
use lib.Seq.{length-take-le}
use Rattle.meter.specs.General.{digits_of}
use Rattle.meter.proofs.GeneralWrite.{general_length}
use Rattle.text.proofs.Back.{number_length, text_length}
use Rattle.text.proofs.Laws.{text_wide}
use Rattle.mphr.specs.Layout.{width_of, kind_of, line_start}
use Rattle.mphr.specs.Lines.{text_fits, number_fits, time_fits, is_long, text_on, number_on, time_on, put_frame, put_line}
use Rattle.mphr.proofs.LayoutLaws.{start_next}
use Rattle.mphr.proofs.WritingLaws.{frame_length, is_text}
use Rattle.mphr.proofs.LineBack.{Stands, Put, text_put, number_put, time_put}
use Rattle.parts.proofs.Local.{At, at_left, at_right}
use Rattle.whole.specs.Values.{Value, text, number, time, room, put, line_of, lines_from, fits}
use Rattle.whole.proofs.Heads.{room_long}

on : (k : ℕ) (b : Bool) → k < 72 → b ≡ true → leb k 71 && b ≡ true
on k b h e = rw (le-leb k 71 (omega arith)) e

-- the tests that the writers make
pub text_on_lem : (k : ℕ) (t : List ℕ) → k < 72 → fits k (text t) ≡ true → text_on k t ≡ true
unfolding text_on
text_on_lem k t h f = on k (text_fits (kind_of k) (width_of k) t) h f

pub number_on_lem : (k : ℕ) → (x : _) → k < 72 → fits k (number x) ≡ true → number_on k x ≡ true
unfolding number_on
number_on_lem k x h f = on k (number_fits (kind_of k) (width_of k) x) h f

pub time_on_lem : (k : ℕ) → (g : _) → k < 72 → fits k (time g) ≡ true → time_on k g ≡ true
unfolding time_on
time_on_lem k g h f = on k (time_fits (kind_of k) g) h f

pub line_room : (k : ℕ) → width_of k + 33 ≤ length (room (width_of k + 33))
line_room k = omega (arith, room_long (width_of k + 33))

pub line_put : (k : ℕ) (x : Value) → k < 72 → fits k x ≡ true → Put k (put k x) (room (width_of k + 33))
line_put k (text t) h f = text_put k t (room (width_of k + 33)) (text_on_lem k t h f) (line_room k)
line_put k (number x) h f = number_put k x (room (width_of k + 33)) (number_on_lem k x h f) (line_room k)
line_put k (time g) h f = time_put k g (room (width_of k + 33)) (time_on_lem k g h f) (line_room k)

-- what its writer keeps of a room's length
put_length : (k : ℕ) (x : Value) (a : List ℕ) → fits k x ≡ true → width_of k ≤ length a → length (put k x a) ≡ length a
put_length k (text t) a f h = text_length a t (omega (arith, text_wide (width_of k) t (is_text (kind_of k) (width_of k) t f).1))
put_length k (number x) a f h = number_length (width_of k) a x
put_length k (time g) a f h = general_length (digits_of (is_long (kind_of k))) a g

pub line_long : (k : ℕ) (x : Value) → fits k x ≡ true → length (line_of k x) ≡ width_of k + 33
unfolding line_of
line_long k x f =
    let w = width_of k in
    let b = put_frame k w (room (w + 33)) in
    let n : length b ≡ w + 33 = frame_length k w (room (w + 33)) ∙ room_long (w + 33) in
    let d : length (drop 32 b) ≡ w + 1 = omega (arith, length-drop 32 b) in
    let p : length (put k x (drop 32 b)) ≡ w + 1 = put_length k x (drop 32 b) f (omega arith) ∙ d in
    length-append (take 32 b) (put k x (drop 32 b)) ∙ omega (arith, length-take-le 32 b (omega arith))

-- ---- ALL LINES
module _ {b : List ℕ} where
  -- each that follows stands where its line starts
  lines_stand : (k : ℕ) (l : List Value) (d : Value) → At b (line_start k) (lines_from k l) → ((j : ℕ) → j < length l → fits (k + j) (get_or l j d) ≡ true) → (j : ℕ) → j < length l → At b (line_start (k + j)) (line_of (k + j) (get_or l j d))
  lines_stand k [] d s f j h = absurd (omega arith)
  lines_stand k (x ∷ l) d s f zero h = let z : k + 0 ≡ k = omega arith in rw z (at_left (line_of k x) (lines_from (suc k) l) s)
  lines_stand k (x ∷ l) d s f (suc j) h =
      let z : k + 0 ≡ k = omega arith in
      let n = line_long k x (rw z at (f 0 (omega arith))) in
      let e : line_start k + length (line_of k x) ≡ line_start (suc k) = omega (arith, start_next k) in
      let r = rw e at (at_right (line_of k x) (lines_from (suc k) l) s) in
      let c : (i : ℕ) → suc k + i ≡ k + suc i = λ i. omega arith in
      rw (c j) at (lines_stand (suc k) l d r (λ i u. rw (c i) (f (suc i) (omega arith))) j (omega arith))

lines_long : (k : ℕ) (l : List Value) (d : Value) → ((j : ℕ) → j < length l → fits (k + j) (get_or l j d) ≡ true) → line_start k + length (lines_from k l) ≡ line_start (k + length l)
lines_long k [] d f = let z : k + 0 ≡ k = omega arith in rw z (omega arith)
lines_long k (x ∷ l) d f =
    let c : (i : ℕ) → suc k + i ≡ k + suc i = λ i. omega arith in
    let z : k + 0 ≡ k = omega arith in
    let n = line_long k x (rw z at (f 0 (omega arith))) in
    let m = lines_long (suc k) l d (λ i u. rw (c i) (f (suc i) (omega arith))) in
    let e : suc k + length l ≡ k + length (x ∷ l) = omega arith in
    omega (arith, rw e at m, start_next k, length-append (line_of k x) (lines_from (suc k) l))

-- from the first line on
module _ (l : List Value) (d : Value) (f : (j : ℕ) → j < length l → fits j (get_or l j d) ≡ true) where
  fit : (j : ℕ) → j < length l → fits (0 + j) (get_or l j d) ≡ true
  fit j h = let z : 0 + j ≡ j = omega arith in rw z (f j h)

  pub all_stand : (b : List ℕ) → At b (line_start 0) (lines_from 0 l) → (j : ℕ) → j < length l → At b (line_start j) (line_of j (get_or l j d))
  all_stand b s j h = let z : 0 + j ≡ j = omega arith in rw z at (lines_stand 0 l d s fit j h)

  pub all_long : line_start 0 + length (lines_from 0 l) ≡ line_start (length l)
  all_long = let z : 0 + length l ≡ length l = omega arith in rw z at (lines_long 0 l d fit)

-- a line that stands, as mphr says it
pub stands_of : (b : List ℕ) (k : ℕ) (x : Value) → fits k x ≡ true → At b (line_start k) (line_of k x) → Stands b k (put_line k (put k x) (room (width_of k + 33)))
unfolding line_of
stands_of b k x f s = record { byte = λ j h. s.byte j (omega (arith, line_long k x f)) }
