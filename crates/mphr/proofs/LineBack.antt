-- WRITTEN LINES: what lies beyond a line is kept; an arrival that has the bytes of a written line where line k stands has no fault 2 or 3 there, and
-- the value reads back. The frame's bytes are the layout's; the value's field is alike with what its writer wrote. Said once over a writer of values
-- that keeps to its field (`Put`), which those of text, numbers and times are. A refusal leaves the room as it came. Assumes nothing.
use mathlib.Core.Path.{◌≡◌, refl, sym, ap, ◌∙◌}
use mathlib.Core.Bool.{Bool, true, false, true≢false}
use mathlib.Core.List.{List}
use Prim.Native.Nat.{ℕ, ◌+◌, ◌-◌, ◌≤◌, ◌<◌}
use native.Mathlib.Omega.{arith}
use borrow.Author.Tests.{eq-eqb}
use lib.Dec.{leb}
use lib.ListN.{length, get_or, take, drop, length-drop, get_or-append}
use lib.Seq.{get_or-drop, get_or-take, get_or-append-add, length-take-le, ext_get_or}
use Rattle.calendar.specs.declared.Refusal.{Refusal}
use Rattle.calendar.specs.Said.{answer}
use Rattle.meter.specs.General.{digits_of, is_general, general_at, general_read_at, fits_general, put_general}
use Rattle.std.specs.declared.option.Option.TheVariants.{Some, None}
use Rattle.std.specs.declared.result.Result.TheVariants.{Ok, Err}
use Rattle.std.specs.declared.option.Option.{Option}
use Rattle.std.specs.declared.result.Result.{Result}
use Rattle.std.specs.Prelude.{ℤ}
use Rattle.meter.specs.declared.general.Moment.{Moment}
use Rattle.meter.proofs.ReadsBack.{reads_answer}
use Rattle.meter.proofs.GeneralWrite.{width_low, general_back, general_kept, general_length}
use Rattle.meter.proofs.WriterLaws.{Done, done, beyond, keeps}
use Rattle.text.specs.Field.{is_value, number_read_at}
use Rattle.text.specs.Writing.{fits_number, put_number, put_text}
use Rattle.text.specs.declared.Kind.{Kind}
use Rattle.text.specs.declared.Kind.TheVariants.{Text, Unsigned, Count, Signed, Time, LongTime}
use Rattle.text.proofs.Alike.{Alike, value_alike, read_alike, general_read_alike}
use Rattle.text.proofs.Back.{number_back, number_valued, count_valued, number_kept, number_length, text_valued, text_kept}
use Rattle.text.proofs.Laws.{text_wide, fits_some}
use Rattle.mphr.specs.Layout.{name_of, width_of, kind_of, line_start}
use Rattle.mphr.specs.Table.{named, framed, valued}
use Rattle.mphr.specs.Lines.{text_fits, number_fits, time_fits, is_long, text_on, number_on, time_on, put_frame, put_line, WritesLine, WritesTextLine, WritesNumberLine, WritesTimeLine, WritesName}
use Rattle.mphr.proofs.LineLaws as line
use Rattle.mphr.proofs.WritingLaws.{frame_length, frame_name, frame_equals, frame_space, frame_feed, frame_kept, on_both, is_text, number_fits_lem, time_fits_lem, time_wide}

-- the arrival b has the line where line k stands
pub record Stands (b : List ℕ) (k : ℕ) (l : List ℕ) : Type 0 where
  pub byte : (j : ℕ) → j < width_of k + 33 → get_or b (line_start k + j) 0 ≡ get_or l j 0

-- the room that the value's writer was given
abbrev value_room : ℕ → List ℕ → List ℕ
value_room k a = drop 32 (put_frame k (width_of k) a)

value_room_lem : (k : ℕ) (a : List ℕ) → width_of k + 33 ≤ length a → width_of k ≤ length (value_room k a)
value_room_lem k a room = omega (arith, length-drop 32 (put_frame k (width_of k) a), frame_length k (width_of k) a)

-- a writer of a value of field k's kind, into its width, which keeps what lies beyond
pub record Put (k : ℕ) (put : List ℕ → List ℕ) (a : List ℕ) : Type 0 where
  pub room : width_of k + 33 ≤ length a
  pub kept : (j : ℕ) → width_of k ≤ j → get_or (put (value_room k a)) j 0 ≡ get_or (value_room k a) j 0
  pub right : is_value (kind_of k) (put (value_room k a)) 0 (width_of k) ≡ true

module _ (k : ℕ) (put : List ℕ → List ℕ) (a : List ℕ) (p : Put k put a) where
  taken : length (take 32 (put_frame k (width_of k) a)) ≡ 32
  taken = length-take-le 32 (put_frame k (width_of k) a) (omega (arith, p.room, frame_length k (width_of k) a))

  early : (j : ℕ) → j < 32 → get_or (put_line k put a) j 0 ≡ get_or (put_frame k (width_of k) a) j 0
  early j h = get_or-append (take 32 (put_frame k (width_of k) a)) (put (drop 32 (put_frame k (width_of k) a))) 0 j (omega (arith, taken)) ∙ get_or-take 32 (put_frame k (width_of k) a) j 0 h

  late : (j : ℕ) → get_or (put_line k put a) (32 + j) 0 ≡ get_or (put (value_room k a)) j 0
  late j =
      let x = take 32 (put_frame k (width_of k) a) in
      let e : 32 + j ≡ length x + j = omega (arith, taken) in
      ap (λ (i : ℕ). get_or (put_line k put a) i 0) e ∙ get_or-append-add x (put (drop 32 (put_frame k (width_of k) a))) j 0

  -- past the value, the frame
  past : (j : ℕ) → width_of k ≤ j → get_or (put_line k put a) (32 + j) 0 ≡ get_or (put_frame k (width_of k) a) (32 + j) 0
  past j h = late j ∙ p.kept j h ∙ get_or-drop 32 (put_frame k (width_of k) a) j 0

  -- WHAT LIES BEYOND IS KEPT
  pub line_kept : (j : ℕ) → width_of k + 33 ≤ j → get_or (put_line k put a) j 0 ≡ get_or a j 0
  line_kept j h =
      let e : 32 + (j - 32) ≡ j = omega arith in
      rw e at (past (j - 32) (omega arith)) ∙ frame_kept k (width_of k) a p.room j (omega arith)

  module _ (b : List ℕ) (stands : Stands b k (put_line k put a)) where
    -- NO FAULT 2
    pub line_framed : framed b k ≡ true
    line_framed =
        let i = line_start k in
        let w = width_of k in
        let n : named b k ≡ true = sym (line.name_yes b k i 30 refl refl (λ j l. stands.byte j (omega arith) ∙ early j (omega arith) ∙ frame_name k w a p.room j l)) in
        let q : get_or b (i + 30) 0 ≡ 61 = stands.byte 30 (omega arith) ∙ early 30 (omega arith) ∙ frame_equals k w a p.room in
        let s : get_or b (i + 31) 0 ≡ 32 = stands.byte 31 (omega arith) ∙ early 31 (omega arith) ∙ frame_space k w a p.room in
        let e : i + 32 + w ≡ i + (32 + w) = omega arith in
        let f : get_or b (i + 32 + w) 0 ≡ 10 = ap (λ (m : ℕ). get_or b m 0) e ∙ stands.byte (32 + w) (omega arith) ∙ past w (omega arith) ∙ frame_feed k w a p.room in
        sym (line.frame_feed b k i w refl refl n q s) ∙ eq-eqb (get_or b (i + 32 + w) 0) 10 f

    -- the value's field is alike with what its writer wrote
    line_alike : Alike b (put (value_room k a)) (line_start k + 32) 0 (width_of k)
    line_alike = record {
      byte = λ j h.
          let e : line_start k + 32 + j ≡ line_start k + (32 + j) = omega arith in
          let z : 0 + j ≡ j = omega arith in
          rw (e, z) (stands.byte (32 + j) (omega arith) ∙ late j);
    }

    -- NOR FAULT 3
    pub line_valued : valued b k ≡ true
    unfolding valued
    line_valued = value_alike line_alike (kind_of k) ∙ p.right

-- ---- a value of its kind
text_kind : (d : Kind) (w : ℕ) (r t : List ℕ) → text_fits d w t ≡ true → is_value d (put_text r t) 0 w ≡ true
text_kind d w r t e = let k = is_text d w t e in rw k.0 (text_valued w r t k.1)

number_kind : (d : Kind) (w : ℕ) (r : List ℕ) (x : Option ℤ) → number_fits d w x ≡ true → w ≤ length r → is_value d (put_number w r x) 0 w ≡ true
unfolding number_fits
number_kind Text w r x e h = absurd (true≢false (sym e))
number_kind Unsigned w r x e h = number_valued false w r x e h
number_kind Count w r None e h = absurd (true≢false (sym e))
number_kind Count w r (Some z) e h = count_valued w r z e h
number_kind Signed w r x e h = number_valued true w r x e h
number_kind Time w r x e h = absurd (true≢false (sym e))
number_kind LongTime w r x e h = absurd (true≢false (sym e))

is_general_lem : (long : Bool) (r : List ℕ) (t : Option Moment) → fits_general long t ≡ true → digits_of long + 1 ≤ length r → is_general (digits_of long) (put_general (digits_of long) r t) 0 ≡ true
is_general_lem long r t e h =
    let b = put_general (digits_of long) r t in
    (reads_answer b 0 (digits_of long + 1) (is_general (digits_of long) b 0) (general_at (digits_of long) b 0) t (general_back long r t e h)).1

time_kind : (d : Kind) (w : ℕ) (r : List ℕ) (t : Option Moment) → time_fits d t ≡ true → digits_of (is_long d) + 1 ≡ w → w ≤ length r → is_value d (put_general (digits_of (is_long d)) r t) 0 w ≡ true
unfolding time_fits is_long is_value
time_kind Text w r t e q h = absurd (true≢false (sym e))
time_kind Unsigned w r t e q h = absurd (true≢false (sym e))
time_kind Count w r t e q h = absurd (true≢false (sym e))
time_kind Signed w r t e q h = absurd (true≢false (sym e))
time_kind Time w r t e q h = rw (eq-eqb w 15 (sym q)) (is_general_lem false r t e (omega arith))
time_kind LongTime w r t e q h = rw (eq-eqb w 18 (sym q)) (is_general_lem true r t e (omega arith))

-- ---- A TEXT
module _ (k : ℕ) (t a : List ℕ) (on : text_on k t ≡ true) (room : width_of k + 33 ≤ length a) where
  text_wide_is : length t ≡ width_of k
  unfolding text_on
  text_wide_is = text_wide (width_of k) t (is_text (kind_of k) (width_of k) t (on_both k (text_fits (kind_of k) (width_of k) t) on).1).1

  pub text_put : Put k (λ (r : List ℕ). put_text r t) a
  unfolding text_on
  text_put = record {
    room = room;
    kept = λ j h. text_kept (value_room k a) t j (omega (arith, text_wide_is));
    right = text_kind (kind_of k) (width_of k) (value_room k a) t (on_both k (text_fits (kind_of k) (width_of k) t) on).1;
  }

  -- its bytes are the text
  pub text_line_back : (b : List ℕ) → Stands b k (put_line k (λ (r : List ℕ). put_text r t) a) → line_start k + 32 + width_of k ≤ length b → take (width_of k) (drop (line_start k + 32) b) ≡ t
  text_line_back b stands l =
      let v = value_room k a in
      let n : length (take (width_of k) (drop (line_start k + 32) b)) ≡ width_of k = length-take-le (width_of k) (drop (line_start k + 32) b) (omega (arith, length-drop (line_start k + 32) b)) in
      ext_get_or 0 (take (width_of k) (drop (line_start k + 32) b)) t (n ∙ sym text_wide_is) (λ j h.
      let z : 0 + j ≡ j = omega arith in
      get_or-take (width_of k) (drop (line_start k + 32) b) j 0 (omega (arith, n))
      ∙ get_or-drop (line_start k + 32) b j 0
      ∙ (line_alike k (λ (r : List ℕ). put_text r t) a text_put b stands).byte j (omega (arith, n))
      ∙ ap (λ (i : ℕ). get_or (put_text v t) i 0) z
      ∙ get_or-append t (drop (length t) v) 0 j (omega (arith, n, text_wide_is)))

-- ---- A NUMBER
module _ (k : ℕ) (x : Option ℤ) (a : List ℕ) (on : number_on k x ≡ true) (room : width_of k + 33 ≤ length a) where
  number_fit : fits_number true (width_of k) x ≡ true
  unfolding number_on
  number_fit = number_fits_lem (kind_of k) (width_of k) x (on_both k (number_fits (kind_of k) (width_of k) x) on).1

  pub number_put : Put k (λ (r : List ℕ). put_number (width_of k) r x) a
  unfolding number_on
  number_put = record {
    room = room;
    kept = λ j h. number_kept (width_of k) (value_room k a) x j (fits_some true (width_of k) x number_fit) h;
    right = number_kind (kind_of k) (width_of k) (value_room k a) x (on_both k (number_fits (kind_of k) (width_of k) x) on).1 (value_room_lem k a room);
  }

  -- the number reads back
  pub number_line_back : (b : List ℕ) → Stands b k (put_line k (λ (r : List ℕ). put_number (width_of k) r x) a) → line_start k + 32 + width_of k ≤ length b → number_read_at true (width_of k) b (line_start k + 32) ≡ answer x
  number_line_back b stands h =
      let v = value_room k a in
      let r = value_room_lem k a room in
      read_alike (line_alike k (λ (r : List ℕ). put_number (width_of k) r x) a number_put b stands) true h (omega (arith, r, number_length (width_of k) v x))
      ∙ number_back true (width_of k) v x number_fit r

-- ---- A TIME
module _ (k : ℕ) (t : Option Moment) (a : List ℕ) (on : time_on k t ≡ true) (room : width_of k + 33 ≤ length a) where
  time_fit : (k < 72) × (time_fits (kind_of k) t ≡ true)
  unfolding time_on
  time_fit = on_both k (time_fits (kind_of k) t) on

  time_width : digits_of (is_long (kind_of k)) + 1 ≡ width_of k
  time_width = time_wide k t time_fit.0 time_fit.1

  pub time_put : Put k (λ (r : List ℕ). put_general (digits_of (is_long (kind_of k))) r t) a
  time_put = record {
    room = room;
    kept = λ j h. general_kept (digits_of (is_long (kind_of k))) (value_room k a) t j (width_low (is_long (kind_of k))) (omega (arith, time_width));
    right = time_kind (kind_of k) (width_of k) (value_room k a) t time_fit.1 time_width (value_room_lem k a room);
  }

  -- the time reads back
  pub time_line_back : (b : List ℕ) → Stands b k (put_line k (λ (r : List ℕ). put_general (digits_of (is_long (kind_of k))) r t) a) → line_start k + 32 + width_of k ≤ length b → general_read_at (is_long (kind_of k)) b (line_start k + 32) ≡ answer t
  time_line_back b stands h =
      let v = value_room k a in
      let r = value_room_lem k a room in
      general_read_alike (line_alike k (λ (r : List ℕ). put_general (digits_of (is_long (kind_of k))) r t) a time_put b stands) (is_long (kind_of k)) (omega (arith, time_width)) (omega (arith, time_width)) (omega (arith, time_width, r, general_length (digits_of (is_long (kind_of k))) v t))
      ∙ general_back (is_long (kind_of k)) v t (time_fits_lem (kind_of k) t time_fit.1) (omega (arith, time_width, r))

-- ---- THE WRITERS, by their promises: what lies beyond is kept, whatever is answered
line_keeps : (room exit : List ℕ) (r : Result ℕ Refusal) (j k : ℕ) (right : Bool) (put : List ℕ → List ℕ) → WritesLine room k right put r exit → width_of k + 33 ≤ j → (right ≡ true → width_of k + 33 ≤ length room → Put k put room) → get_or exit j 0 ≡ get_or room j 0
line_keeps room exit r j k right put w h p = beyond room (width_of k + 33) right (put_line k put room) exit j w.1 (λ f l. line_kept k put room (p f l) j h)

module _ (room exit : List ℕ) (r : Result ℕ Refusal) (j k : ℕ) where
  pub write_text_line_keeps : (t : List ℕ) → WritesTextLine room k t r exit → width_of k + 33 ≤ j → get_or exit j 0 ≡ get_or room j 0
  write_text_line_keeps t w h = line_keeps room exit r j k (text_on k t) (λ (a : List ℕ). put_text a t) w h (text_put k t room)

  pub write_number_line_keeps : (x : Option ℤ) → WritesNumberLine room k x r exit → width_of k + 33 ≤ j → get_or exit j 0 ≡ get_or room j 0
  write_number_line_keeps x w h = line_keeps room exit r j k (number_on k x) (λ (a : List ℕ). put_number (width_of k) a x) w h (number_put k x room)

  pub write_time_line_keeps : (t : Option Moment) → WritesTimeLine room k t r exit → width_of k + 33 ≤ j → get_or exit j 0 ≡ get_or room j 0
  write_time_line_keeps t w h = line_keeps room exit r j k (time_on k t) (λ (a : List ℕ). put_general (digits_of (is_long (kind_of k))) a t) w h (time_put k t room)

  pub write_name_keeps : WritesName room k r exit → length (name_of k) ≤ j → get_or exit j 0 ≡ get_or room j 0
  write_name_keeps w h = beyond room (length (name_of k)) (leb k 71) (put_text room (name_of k)) exit j w.1 (λ _ _. text_kept room (name_of k) j h)

-- and where bytes are answered, the line is there
pub line_written : (room exit : List ℕ) (m k : ℕ) (right : Bool) (put : List ℕ → List ℕ) → WritesLine room k right put (Ok m) exit → Done room (width_of k + 33) right (put_line k put room) exit m
line_written room exit m k right put w = done room (width_of k + 33) right (put_line k put room) exit 22 m w.0 w.1

-- ---- A REFUSAL KEEPS THE ROOM: of a line, and of a name
pub line_refusal_keeps : (room : List ℕ) (k : ℕ) (right : Bool) (put : List ℕ → List ℕ) (exit : List ℕ) (r : Refusal) → WritesLine room k right put (Err r) exit → exit ≡ room
line_refusal_keeps room k right put exit r w = keeps 22 (width_of k + 33) room (put_line k put room) exit right r w.0 w.1

pub name_refusal_keeps : (room : List ℕ) (k : ℕ) (exit : List ℕ) (r : Refusal) → WritesName room k (Err r) exit → exit ≡ room
name_refusal_keeps room k exit r w = keeps 22 (length (name_of k)) room (put_text room (name_of k)) exit (leb k 71) r w.0 w.1
