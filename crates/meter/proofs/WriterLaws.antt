-- THE WRITERS, by their promises alone: whatever a writer answers, what lies beyond its bytes is kept; where it answers bytes, the reader of the room at
-- exit answers what was handed in; where it refuses, the room is as it came. By the cases of the promise, and by what is put and read back. Assumes
-- nothing.
use Prim.Native.Nat.{ℕ, ◌+◌, ◌≤◌}
use native.Mathlib.Omega.{arith}
use mathlib.Core.Path.{◌≡◌, refl, sym, ◌∙◌}
use mathlib.Core.Bool.{Bool, true, false, cond, ◌&&◌}
use mathlib.Core.List.{List}
use borrow.Author.Tests.{leb-true}
use lib.Dec.{leb}
use lib.IntN.{ℤ}
use lib.ListN.{length, get_or}
use Rattle.calendar.specs.declared.Refusal.{Refusal}
use Rattle.calendar.specs.Said.{Said, answer, refusal, refused}
use Rattle.meter.specs.Lent.{wrote, Writes}
use Rattle.meter.specs.Integer.{stored, word_of, fits_unsigned, fits_signed, unsigned_at, signed_at, WritesUnsigned, WritesSigned}
use Rattle.meter.specs.Time.{is_time, InDays, bits_of, WritesTime, TimeBack}
use Rattle.meter.specs.General.{digits_of, general_read_at, fits_general, put_general, general_of, WritesGeneral, WritesTimeText, TimeTextBack}
use Rattle.meter.specs.Scaled.{none_of, scaled_read_at, fits_scaled, put_scaled, WritesScaled}
use Rattle.std.specs.declared.option.Option.TheVariants.{Some, None}
use Rattle.std.specs.declared.result.Result.TheVariants.{Ok, Err}
use Rattle.std.specs.declared.option.Option.{Option}
use Rattle.std.specs.declared.result.Result.{Result}
use Rattle.meter.specs.declared.general.Moment.{Moment}
use Rattle.meter.specs.declared.time.Time.{Time}
use Rattle.meter.specs.declared.scaled.Scaled.{Scaled}
use Rattle.calendar.specs.Said.{said}
use Rattle.meter.proofs.IntegerLaws.{stored_after}
use Rattle.meter.proofs.TimeLaws.{time_back}
use Rattle.meter.proofs.GeneralTime.{time_text_back}
use Rattle.meter.proofs.GeneralWrite.{width_low, general_kept, general_back}
use Rattle.meter.proofs.ReadsBack.{unsigned_back, signed_back, scaled_back}
use Rattle.meter.proofs.Determined.{unique_read_unsigned, unique_read_signed, unique_read_general, unique_read_scaled}

-- ---- a promise by its cases, whatever number q a value that is not right is refused with
pub beyond : (room : List ℕ) (n : ℕ) (right : Bool) (new exit : List ℕ) (j : ℕ) → exit ≡ wrote room n right new → (right ≡ true → n ≤ length room → get_or new j 0 ≡ get_or room j 0) → get_or exit j 0 ≡ get_or room j 0
beyond room n right new exit j e k = rw e (go right refl (leb n (length room)) refl)
  where
    go : (b : Bool) → right ≡ b → (c : Bool) → leb n (length room) ≡ c → get_or (cond (b && c) new room) j 0 ≡ get_or room j 0
    go true r true l = k r (leb-true n (length room) l)
    go true r false l = refl
    go false r c l = refl

-- what a writer that answered bytes had, and left
pub record Done (room : List ℕ) (n : ℕ) (right : Bool) (new exit : List ℕ) (m : ℕ) : Type 0 where
  pub fits : right ≡ true
  pub room_is : n ≤ length room
  pub left : exit ≡ new
  pub bytes : m ≡ n

pub done : (room : List ℕ) (n : ℕ) (right : Bool) (new exit : List ℕ) (q m : ℕ) → answer m ≡ cond right (cond (leb n (length room)) (answer n) (refusal 18 n)) (refusal q 0) → exit ≡ wrote room n right new → Done room n right new exit m
done room n right new exit q m e x = go right refl (leb n (length room)) refl e x
  where
    go : (b : Bool) → right ≡ b → (c : Bool) → leb n (length room) ≡ c → answer m ≡ cond b (cond c (answer n) (refusal 18 n)) (refusal q 0) → exit ≡ cond (b && c) new room → Done room n right new exit m
    go true r true l e x = record { fits = r; room_is = leb-true n (length room) l; left = x; bytes = cc }
    go true r false l e x = let z : ◌≡◌ {A = ℕ} 0 1 = cc in absurd (omega arith)
    go false r c l e x = let z : ◌≡◌ {A = ℕ} 0 1 = cc in absurd (omega arith)

-- ---- WHAT LIES BEYOND IS KEPT
module _ (room exit : List ℕ) (r : Result ℕ Refusal) (j : ℕ) where
  pub write_unsigned_keeps : (n v : ℕ) → WritesUnsigned room n v r exit → n ≤ j → get_or exit j 0 ≡ get_or room j 0
  write_unsigned_keeps n v w h = beyond room n (fits_unsigned n v) (stored room 0 n v) exit j w.1 (λ _ _. stored_after room 0 n v j (omega arith))

  pub write_signed_keeps : (n : ℕ) (z : ℤ) → WritesSigned room n z r exit → n ≤ j → get_or exit j 0 ≡ get_or room j 0
  write_signed_keeps n z w h = beyond room n (fits_signed n z) (stored room 0 n (word_of z)) exit j w.1 (λ _ _. stored_after room 0 n (word_of z) j (omega arith))

  pub write_time_keeps : (t : Option Time) → WritesTime room t r exit → 6 ≤ j → get_or exit j 0 ≡ get_or room j 0
  write_time_keeps t w h = beyond room 6 (is_time t) (stored room 0 6 (bits_of t)) exit j w.1 (λ _ _. stored_after room 0 6 (bits_of t) j h)

  pub write_general_keeps : (long : Bool) (t : Option Moment) → WritesGeneral room long t r exit → digits_of long + 1 ≤ j → get_or exit j 0 ≡ get_or room j 0
  write_general_keeps long t w h = beyond room (digits_of long + 1) (fits_general long t) (put_general (digits_of long) room t) exit j w.1 (λ _ _. general_kept (digits_of long) room t j (width_low long) (omega arith))

  pub write_time_text_keeps : (t : Option Time) → WritesTimeText room t r exit → 18 ≤ j → get_or exit j 0 ≡ get_or room j 0
  write_time_text_keeps t w h = beyond room 18 (is_time t) (put_general 17 room (general_of t)) exit j w.1 (λ _ _. general_kept 17 room (general_of t) j (omega arith) (omega arith))

  pub write_scaled_keeps : (signed : Bool) (n : ℕ) (x : Option Scaled) → WritesScaled room signed n x r exit → 1 + n ≤ j → get_or exit j 0 ≡ get_or room j 0
  write_scaled_keeps signed n x w h = beyond room (1 + n) (fits_scaled signed n x) (put_scaled signed n room x) exit j w.1 (λ _ _. go x)
    where
      parts : (s v : ℕ) → get_or (stored (stored room 0 1 s) 1 n v) j 0 ≡ get_or room j 0
      parts s v = stored_after (stored room 0 1 s) 1 n v j h ∙ stored_after room 0 1 s j (omega arith)

      go : (x : Option Scaled) → get_or (put_scaled signed n room x) j 0 ≡ get_or room j 0
      go None = parts 0 (word_of (none_of signed n))
      go (Some t) = parts (word_of t.scale) (word_of t.integer)

-- ---- WHAT IS WRITTEN READS BACK
module _ (room exit : List ℕ) (m : ℕ) where
  pub write_unsigned_back : (n v : ℕ) → WritesUnsigned room n v (Ok m) exit → (r : Result ℕ Refusal) → said r ≡ unsigned_at exit 0 n → r ≡ Ok v
  write_unsigned_back n v w r e =
      let d = done room n _ (stored room 0 n v) exit 21 m w.0 w.1 in
      unique_read_unsigned exit 0 n r (Ok v) e (rw d.left (sym (unsigned_back room n v d.fits d.room_is)))

  pub write_signed_back : (n : ℕ) (z : ℤ) → WritesSigned room n z (Ok m) exit → (r : Result ℤ Refusal) → said r ≡ signed_at exit 0 n → r ≡ Ok z
  write_signed_back n z w r e =
      let d = done room n _ (stored room 0 n (word_of z)) exit 21 m w.0 w.1 in
      unique_read_signed exit 0 n r (Ok z) e (rw d.left (sym (signed_back room n z d.fits d.room_is)))

  pub write_general_back : (long : Bool) (t : Option Moment) → WritesGeneral room long t (Ok m) exit → (r : Result (Option Moment) Refusal) → said r ≡ general_read_at long exit 0 → r ≡ Ok t
  write_general_back long t w r e =
      let d = done room (digits_of long + 1) _ _ exit 21 m w.0 w.1 in
      unique_read_general long exit 0 r (Ok t) e (rw d.left (sym (general_back long room t d.fits d.room_is)))

  pub write_scaled_back : (signed : Bool) (n : ℕ) (x : Option Scaled) → WritesScaled room signed n x (Ok m) exit → (r : Result (Option Scaled) Refusal) → said r ≡ scaled_read_at signed n exit 0 → r ≡ Ok x
  write_scaled_back signed n x w r e =
      let d = done room (1 + n) _ (put_scaled signed n room x) exit 21 m w.0 w.1 in
      unique_read_scaled signed n exit 0 r (Ok x) e (rw d.left (sym (scaled_back signed n room x d.fits d.room_is)))

-- of a time whose day has 16 bits, as each of the machine's type has: what the two writers of times promise of the room at exit
module _ (room exit : List ℕ) (r : Result ℕ Refusal) (t : Option Time) (i : InDays t) where
  pub time_written_back : WritesTime room t r exit → TimeBack t r exit
  time_written_back w e =
      let d = done room 6 (is_time t) (stored room 0 6 (bits_of t)) exit 21 6 (sym e ∙ w.0) w.1 in
      rw d.left (time_back room t i d.fits d.room_is)

  pub text_written_back : WritesTimeText room t r exit → TimeTextBack t r exit
  text_written_back w e =
      let d = done room 18 (is_time t) (put_general 17 room (general_of t)) exit 21 18 (sym e ∙ w.0) w.1 in
      rw d.left (time_text_back room t d.fits i d.room_is)

-- ---- A REFUSAL KEEPS THE ROOM (demand 1: "A refusal leaves each lent buffer as it came"), once over every promise of this shape, whatever number q a
-- value that is not right is refused with
pub keeps : (q n : ℕ) (room new exit : List ℕ) (right : Bool) (r : Refusal) → ◌≡◌ {A = Said ℕ} (refused r) (cond right (cond (leb n (length room)) (answer n) (refusal 18 n)) (refusal q 0)) → exit ≡ wrote room n right new → exit ≡ room
keeps q n room new exit right r e x = go right (leb n (length room)) e x
  where
    go : (b c : Bool) → ◌≡◌ {A = Said ℕ} (refused r) (cond b (cond c (answer n) (refusal 18 n)) (refusal q 0)) → exit ≡ cond (b && c) new room → exit ≡ room
    go true true e x = let z : ◌≡◌ {A = ℕ} 0 1 = cc in absurd (omega arith)
    go true false e x = x
    go false c e x = x

pub refusal_keeps : (room : List ℕ) (n : ℕ) (right : Bool) (new exit : List ℕ) (r : Refusal) → Writes room n right new (Err r) exit → exit ≡ room
refusal_keeps room n right new exit r w = keeps 21 n room new exit right r w.0 w.1
