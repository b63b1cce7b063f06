-- THE SECOND LAW: a product in the writers' spelling is the bytes of what it says. Each value is written back as it stood, so the main header is itself
-- (parts' `one_header`), and each record is. Assumes nothing.
use mathlib.Core.Path.{◌≡◌, refl, sym, ap, ◌∙◌}
use mathlib.Core.Bool.{Bool, true, false, cond, ◌||◌}
use mathlib.Core.List.{List, ◌++◌}
use Prim.Native.Nat.{ℕ, suc, ◌+◌, ◌-◌, ◌≤◌, ◌<◌}
use native.Mathlib.Omega.{arith}
use borrow.Author.Tests.{eqb-true, le-leb}
use lib.Dec.{eqb}
use lib.ListN.{length, get_or, take, drop, length-append, length-drop, get_or-append}
use lib.Seq.{length-take-le, get_or-take, get_or-drop, ext_get_or, take-add, drop-drop}
use Rattle.calendar.specs.Said.{answer}
use Rattle.meter.specs.General.{digits_of, put_general}
use Rattle.meter.proofs.GeneralRuns.{and_true}
use Rattle.meter.proofs.GeneralWrite.{x_are}
use Rattle.record.specs.Header.{header_at, header_read_at, put_header}
use Rattle.record.specs.Pointer.{pointer_at, pointer_read_at, put_pointer}
use Rattle.record.proofs.ReadsBack.{header_again, pointer_again}
use Rattle.text.specs.Field.{is_x, is_number, integer_of, number_at, is_value}
use Rattle.text.specs.Writing.{put_text, put_number}
use Rattle.text.specs.declared.Kind.{Kind}
use Rattle.text.specs.declared.Kind.TheVariants.{Text, Unsigned, Count, Signed, Time, LongTime}
use Rattle.std.specs.declared.option.Option.TheVariants.{Some, None}
use Rattle.text.proofs.Meaning.{number_means, x_means}
use Rattle.mphr.specs.Layout.{width_of, kind_of, line_start}
use Rattle.mphr.specs.Table.{valued, declared}
use Rattle.mphr.specs.Lines.{is_long, put_frame}
use Rattle.mphr.proofs.WritingLaws.{frame_length}
use Rattle.mphr.proofs.LayoutLaws.{start_next, start_mono, start_72}
use Rattle.demands.specs.Product.{class, size, Records, none, more, Meets}
use Rattle.parts.specs.Parts.{record_at, records_at}
use Rattle.parts.specs.Parts as P
use Rattle.parts.specs.Rewritten.{value_of}
use Rattle.parts.proofs.Built.{parts_of, meets_built}
use Rattle.parts.proofs.Unique.{one_header}
use Rattle.parts.proofs.Local.{At, at_right}
use Rattle.meter.specs.Integer.{Bytes}
use Rattle.whole.specs.Values.{Value, text, number, time, plain, pointer, Values, room, put, line_of, lines_from, main_of, rec_of, joined, print, RightHeader, RightPointer, RightRec, line_in, Right}
use Rattle.whole.specs.Spelled.{Plain, Spelled, Canonical}
use Rattle.whole.specs.Parse.{value_at, line_at, rec_at, recs_at, parse_at}
use Rattle.whole.proofs.Heads.{pointer_form, room_long, header_long, pointer_long}
use Rattle.whole.proofs.Lines.{line_long}
use Rattle.whole.proofs.Numbers.{whole_again}
use Rattle.whole.proofs.Moments.{general_again}
use Rattle.whole.proofs.Printed.{main_long, main_line, main_header}
use Rattle.whole.proofs.Parsed.{left_true, right_rec, records_le, line_in_lem, parse_right}

-- ---- WHERE A VALUE STANDS
abbrev pub value_room : ℕ → List ℕ
value_room k = drop 32 (put_frame k (width_of k) (room (width_of k + 33)))

pub value_room_lem : (k : ℕ) → length (value_room k) ≡ width_of k + 1
value_room_lem k = omega (arith, length-drop 32 (put_frame k (width_of k) (room (width_of k + 33))), frame_length k (width_of k) (room (width_of k + 33)), room_long (width_of k + 33))

module _ (v : Values) (r : Right v) where
  pub put_at : (k : ℕ) → k < 72 → At (main_of v) (line_start k + 32) (put k (line_in v k) (value_room k))
  unfolding line_of
  put_at k h =
      let f = put_frame k (width_of k) (room (width_of k + 33)) in
      let n : length f ≡ width_of k + 33 = frame_length k (width_of k) (room (width_of k + 33)) ∙ room_long (width_of k + 33) in
      let e : length (take 32 f) ≡ 32 = length-take-le 32 f (omega arith) in
      rw e at (at_right (take 32 f) (put k (line_in v k) (drop 32 f)) (main_line v r k h))

  put_long : (k : ℕ) → k < 72 → length (put k (line_in v k) (value_room k)) ≡ width_of k + 1
  unfolding line_of
  put_long k h =
      let f = put_frame k (width_of k) (room (width_of k + 33)) in
      let n : length f ≡ width_of k + 33 = frame_length k (width_of k) (room (width_of k + 33)) ∙ room_long (width_of k + 33) in
      let e : length (take 32 f) ≡ 32 = length-take-le 32 f (omega arith) in
      omega (arith, line_long k (line_in v k) (r.lines k h), length-append (take 32 f) (put k (line_in v k) (drop 32 f)))

  -- a byte of a value is its writer's
  pub value_byte : (k : ℕ) → k < 72 → (j : ℕ) → j < width_of k → get_or (main_of v) (line_start k + 32 + j) 0 ≡ get_or (put k (line_in v k) (value_room k)) j 0
  value_byte k h j l = (put_at k h).byte j (omega (arith, put_long k h))

-- ---- A VALUE IS WRITTEN BACK
abbrev pub put_by : Kind → ℕ → Value → List ℕ → List ℕ
put_by d w (text t) r = put_text r t
put_by d w (number x) r = put_number w r x
put_by d w (time g) r = put_general (digits_of (is_long d)) r g

pub put_is : (k : ℕ) (x : Value) (r : List ℕ) → put k x r ≡ put_by (kind_of k) (width_of k) x r
put_is k (text t) r = refl
put_is k (number x) r = refl
put_is k (time g) r = refl

module _ (a : List ℕ) (i w : ℕ) (r : List ℕ) (room : w ≤ length r) where
  number_again : (signed : Bool) → is_number signed a i w || is_x a i w ≡ true → Plain a i w → (j : ℕ) → j < w → get_or (put_number w r (number_at a i w)) j 0 ≡ get_or a (i + j) 0
  number_again signed e p j h = go (is_x a i w) refl
    where
      go : (b : Bool) → is_x a i w ≡ b → get_or (put_number w r (cond b None (Some (integer_of a i w)))) j 0 ≡ get_or a (i + j) 0
      go true x = let u = (x_means a i w x).1 j h in x_are r w room j h ∙ omega arith
      go false x = whole_again signed a i w (number_means signed a i w (left_true (is_number signed a i w) (is_x a i w) e x)) p r room j h

  pub text_again : i + w ≤ length a → (j : ℕ) → j < w → get_or (put_text r (take w (drop i a))) j 0 ≡ get_or a (i + j) 0
  text_again h j l =
      let n : length (take w (drop i a)) ≡ w = length-take-le w (drop i a) (omega (arith, length-drop i a)) in
      get_or-append (take w (drop i a)) (drop (length (take w (drop i a))) r) 0 j (omega arith) ∙ get_or-take w (drop i a) j 0 l ∙ get_or-drop i a j 0

  or_left : (x y : Bool) → x ≡ true → x || y ≡ true
  or_left x y e = rw e

  again_by : (d : Kind) → i + w ≤ length a → is_value d a i w ≡ true → Spelled d a i w → (j : ℕ) → j < w → get_or (put_by d w (value_at d a i w) r) j 0 ≡ get_or a (i + j) 0
  unfolding is_value is_long
  again_by Text h e s j l = text_again h j l
  again_by Unsigned h e s j l = number_again false e s j l
  again_by Count h e s j l = number_again false (or_left (is_number false a i w) (is_x a i w) e) s j l
  again_by Signed h e s j l = number_again true e s j l
  again_by Time h e s j l = let t = and_true (eqb w 15) _ e in let q = eqb-true w 15 t.0 in general_again false a i r (omega arith) s t.1 j (omega arith)
  again_by LongTime h e s j l = let t = and_true (eqb w 18) _ e in let q = eqb-true w 18 t.0 in general_again true a i r (omega arith) s t.1 j (omega arith)

-- ---- A RECORD IS WRITTEN BACK
ext : (x y : List ℕ) → length x ≡ length y → ((j : ℕ) → j < length x → get_or x j 0 ≡ get_or y j 0) → x ≡ y
ext x y e f = ext_get_or 0 x y e f

module _ (a : List ℕ) (bs : Bytes a) where
  head_again : (i : ℕ) → RightHeader (header_at a i) → i + 20 ≤ length a → put_header (room 20) (header_at a i) ≡ take 20 (drop i a)
  head_again i r l =
      let n : length (take 20 (drop i a)) ≡ 20 = length-take-le 20 (drop i a) (omega (arith, length-drop i a)) in
      let e : header_read_at a i ≡ answer (header_at a i) = rw (le-leb (i + 20) (length a) l, r.form) in
      ext (put_header (room 20) (header_at a i)) (take 20 (drop i a)) (header_long (header_at a i) ∙ sym n) (λ j h.
      let u : j < 20 = omega (arith, header_long (header_at a i)) in
      header_again (room 20) a i (header_at a i) bs (omega (arith, room_long 20)) e j u ∙ sym (get_or-take 20 (drop i a) j 0 u ∙ get_or-drop i a j 0))

  pointer_is : (i : ℕ) → RightPointer (pointer_at a i) → i + 27 ≤ length a → put_pointer (room 27) (pointer_at a i) ≡ take 27 (drop i a)
  pointer_is i r l =
      let n : length (take 27 (drop i a)) ≡ 27 = length-take-le 27 (drop i a) (omega (arith, length-drop i a)) in
      let e : pointer_read_at a i ≡ answer (pointer_at a i) = rw (le-leb (i + 27) (length a) l, pointer_form r) in
      ext (put_pointer (room 27) (pointer_at a i)) (take 27 (drop i a)) (pointer_long (pointer_at a i) ∙ sym n) (λ j h.
      let u : j < 27 = omega (arith, pointer_long (pointer_at a i)) in
      pointer_again (room 27) a i (pointer_at a i) bs (omega (arith, room_long 27)) e j u ∙ sym (get_or-take 27 (drop i a) j 0 u ∙ get_or-drop i a j 0))

  rec_again : (i : ℕ) → RightRec (rec_at a i) → 20 ≤ size a i → i + size a i ≤ length a → (class a i ≡ 3 → size a i ≡ 27) → rec_of (rec_at a i) ≡ record_at a i
  unfolding rec_at rec_of
  rec_again i r h l z = go (eqb (class a i) 3) refl r
    where
      go : (b : Bool) → eqb (class a i) 3 ≡ b → RightRec (cond b (pointer (pointer_at a i)) (plain (header_at a i) (take (size a i - 20) (drop (i + 20) a)))) → rec_of (cond b (pointer (pointer_at a i)) (plain (header_at a i) (take (size a i - 20) (drop (i + 20) a)))) ≡ take (size a i) (drop i a)
      go true e r = let q = z (eqb-true (class a i) 3 e) in pointer_is i r (omega arith) ∙ ap (λ (n : ℕ). take n (drop i a)) (sym q)
      go false e r =
          let q : 20 + (size a i - 20) ≡ size a i = omega arith in
          ap (λ (x : List ℕ). x ++ take (size a i - 20) (drop (i + 20) a)) (head_again i r.header (omega arith))
          ∙ ap (λ (x : List ℕ). take 20 (drop i a) ++ take (size a i - 20) x) (sym (drop-drop 20 i a))
          ∙ sym (take-add 20 (size a i - 20) (drop i a))
          ∙ ap (λ (n : ℕ). take n (drop i a)) q

  pub recs_again : (come : length a ≡ declared a) {i p : ℕ} {l : List ℕ} → Records a i p l → joined (recs_at a l) ≡ P.joined (records_at a l)
  recs_again come (none e) = refl
  recs_again come (more {i = i} {l = l} x m ts) =
      let w : i + size a i ≤ length a = omega (arith, records_le ts) in
      ap (λ (s : List ℕ). s ++ joined (recs_at a l)) (rec_again i (right_rec a bs x m w) x.least w x.ipr)
      ∙ ap (λ (s : List ℕ). record_at a i ++ s) (recs_again come ts)

-- ---- THE LAW
module _ (a : List ℕ) (bs : Bytes a) (m : Meets a) where
  right : Right (parse_at a m.list)
  right = parse_right a bs m

  long : 3307 ≤ length a
  long = omega (arith, m.come, m.header.least)

  line_room_is : (k : ℕ) → k < 72 → line_start k + 32 + width_of k ≤ 3307
  line_room_is k h = omega (arith, start_next k, start_mono {j = suc k} {k = 72} h, start_72)

  pub main_first : (j : ℕ) → j < 20 → get_or (main_of (parse_at a m.list)) j 0 ≡ get_or a j 0
  unfolding main_of
  main_first j h =
      let p = put_header (room 20) (header_at a 0) in
      get_or-append p (lines_from 0 (parse_at a m.list).lines) 0 j (omega (arith, header_long (header_at a 0)))
      ∙ ap (λ (x : List ℕ). get_or x j 0) (head_again a bs 0 right.header (omega (arith, long)))
      ∙ get_or-take 20 (drop 0 a) j 0 h
      ∙ get_or-drop 0 a j 0
      ∙ ap (λ (k : ℕ). get_or a k 0) (omega arith)

  module _ (c : Canonical a) where
    main_value : (k : ℕ) → k < 72 → (j : ℕ) → j < width_of k → get_or (main_of (parse_at a m.list)) (line_start k + 32 + j) 0 ≡ get_or a (line_start k + 32 + j) 0
    unfolding line_at valued
    main_value k h j l =
        let x = line_in (parse_at a m.list) k in
        value_byte (parse_at a m.list) right k h j l
        ∙ ap (λ (y : Value). get_or (put k y (value_room k)) j 0) (line_in_lem a m.list k h)
        ∙ ap (λ (s : List ℕ). get_or s j 0) (put_is k (line_at a k) (value_room k))
        ∙ again_by a (line_start k + 32) (width_of k) (value_room k) (omega (arith, value_room_lem k)) (kind_of k) (omega (arith, line_room_is k h, long)) (m.header.lines k h).1 (c k h) j l

    values_same : (k : ℕ) → k < 72 → value_of (main_of (parse_at a m.list)) k ≡ value_of (take 3307 a) k
    values_same k h =
        let b = main_of (parse_at a m.list) in
        let p = line_start k + 32 in
        let w = width_of k in
        let n : length b ≡ 3307 = main_long (parse_at a m.list) right in
        let q : length (take 3307 a) ≡ 3307 = length-take-le 3307 a long in
        let x : length (value_of b k) ≡ w = length-take-le w (drop p b) (omega (arith, length-drop p b, line_room_is k h)) in
        let y : length (value_of (take 3307 a) k) ≡ w = length-take-le w (drop p (take 3307 a)) (omega (arith, length-drop p (take 3307 a), line_room_is k h)) in
        ext (value_of b k) (value_of (take 3307 a) k) (x ∙ sym y) (λ j u.
        let l : j < w = omega arith in
        get_or-take w (drop p b) j 0 l ∙ get_or-drop p b j 0 ∙ main_value k h j l
        ∙ sym (get_or-take w (drop p (take 3307 a)) j 0 l ∙ get_or-drop p (take 3307 a) j 0 ∙ get_or-take 3307 a (p + j) 0 (omega (arith, line_room_is k h))))

    main_again : main_of (parse_at a m.list) ≡ take 3307 a
    main_again =
        one_header record {
          long = (main_long (parse_at a m.list) right, length-take-le 3307 a long);
          start = λ j h. main_first j h ∙ sym (get_or-take 3307 a j 0 (omega arith));
          frames = λ k h. (((main_header (parse_at a m.list) right).lines k h).0, ((meets_built a m).fits.header.lines k h).0);
          values = values_same;
        }

    pub print_parse : print (parse_at a m.list) ≡ a
    print_parse =
        ap (λ (s : List ℕ). s ++ joined (recs_at a m.list)) main_again
        ∙ ap (λ (s : List ℕ). take 3307 a ++ s) (recs_again a bs m.come m.records)
        ∙ sym (parts_of a m)
