-- WHAT THE WRITERS WROTE IS WHAT IS PRINTED, whatever rooms they were lent: the bytes of a written value are one spelling of it, and it reads back; so it is
-- written into another room as it stood. Assumes nothing.
use mathlib.Core.Path.{◌≡◌, refl, sym, ap, ◌∙◌}
use mathlib.Core.Bool.{Bool, true, ◌&&◌}
use mathlib.Core.List.Memᴰ.{head as top}
use mathlib.Core.List.Memᴰ.{tail as pop}
use mathlib.Core.List.{List, [], ◌∷◌, ◌++◌, Memᴰ as In}
use Prim.Native.Nat.{ℕ, zero, suc, ◌+◌, ◌-◌, ◌≤◌, ◌<◌}
use native.Mathlib.Decide.{dec_lt}
use native.Mathlib.Omega.{arith}
use lib.Dec.{ltb, leb}
use lib.IntN.{ℤ}
use lib.ListN.{length, get_or, take, drop, length-append, length-drop, take-append-drop, get_or-append}
use lib.Seq.{length-take-le, get_or-take, get_or-drop, get_or-append-add, ext_get_or}
use Rattle.meter.specs.General.{digits_of, is_general, general_at, put_general, fits_general}
use Rattle.std.specs.declared.option.Option.TheVariants.{Some, None}
use Rattle.std.specs.declared.option.Option.{Option}
use Rattle.meter.specs.declared.general.Moment.{Moment}
use Rattle.meter.proofs.GeneralRuns.{and_true}
use Rattle.meter.proofs.GeneralWrite.{width_low, x_are, general_back}
use Rattle.meter.proofs.ReadsBack.{reads_answer}
use Rattle.meter.proofs.WriterLaws.{done}
use Rattle.record.specs.Header.{is_header, put_header}
use Rattle.record.specs.Pointer.{is_pointer, put_pointer}
use Rattle.record.specs.declared.header.Header.{Header}
use Rattle.record.specs.declared.pointer.Pointer.{Pointer}
use Rattle.record.proofs.FieldLaws.{put_held, held_again}
use Rattle.record.proofs.FieldLaws as F
use Rattle.text.specs.Writing.{spelled, fits_number, put_text, put_number, put_whole}
use Rattle.text.proofs.Back.{whole_in, whole_value}
use Rattle.text.proofs.Laws.{text_wide, fits_some}
use Rattle.mphr.specs.Layout.{width_of, kind_of, line_start}
use Rattle.mphr.specs.Lines.{is_long, text_on, number_on, time_on, put_frame, put_line}
use Rattle.mphr.specs.Table.{framed}
use Rattle.mphr.proofs.LayoutLaws.{start_next, start_mono, start_72}
use Rattle.mphr.proofs.WritingLaws.{frame_length, is_text, number_fits_lem, time_fits_lem, time_wide}
use Rattle.mphr.proofs.LineBack.{Stands, Put, text_put, number_put, time_put, line_framed, line_written}
use Rattle.parts.proofs.Local.{At}
use Rattle.parts.proofs.Unique.{one_header}
use Rattle.parts.specs.Rewritten.{value_of}
use Rattle.whole.specs.Values.{Value, text, number, time, Rec, plain, pointer, Values, room, put, lines_from, main_of, rec_of, joined, print, fits, RightRec, line_in, Right}
use Rattle.whole.specs.Assembled.{Has, LineIn, HeaderIn, PointerIn, RecIn, RecsIn, Assembled}
use Rattle.record.proofs.ReadsBack.{fields_of, pointer_fields, header_fields, pointer_fields_lem}
use Rattle.whole.proofs.Heads.{room_long, header_long, pointer_long}
use Rattle.whole.proofs.OfBytes.{header_bytes, pointer_bytes}
use Rattle.whole.proofs.Numbers.{whole_plain, whole_again}
use Rattle.whole.proofs.Moments.{general_zed, general_again}
use Rattle.whole.proofs.Printed.{made, main_long, main_header}
use Rattle.whole.proofs.Again.{value_room, value_room_lem, value_byte}

-- ---- A VALUE, INTO ANY ROOM
whole_any : (w : ℕ) (z : ℤ) (r s : List ℕ) → 0 < w → spelled true w z ≡ true → w ≤ length r → w ≤ length s → (j : ℕ) → j < w → get_or (put_whole s w z) j 0 ≡ get_or (put_whole r w z) j 0
whole_any zero z r s o f h l j u = absurd (omega arith)
whole_any (suc n) z r s o f h l j u =
    let i : 0 + j ≡ j = omega arith in
    let e = whole_value true n r z h f in
    rw (i, e) at (whole_again true (put_whole r (suc n) z) 0 (suc n) (whole_in true n r z h f) (whole_plain true n r z h f) s l j u)

number_any : (w : ℕ) (x : Option ℤ) (r s : List ℕ) → fits_number true w x ≡ true → w ≤ length r → w ≤ length s → (j : ℕ) → j < w → get_or (put_number w s x) j 0 ≡ get_or (put_number w r x) j 0
number_any w None r s f h l j u = x_are s w l j u ∙ sym (x_are r w h j u)
number_any w (Some z) r s f h l j u = whole_any w z r s (fits_some true w (Some z) f) (and_true (ltb 0 w && leb w 17) _ f).1 h l j u

time_any : (long : Bool) (g : Option Moment) (r s : List ℕ) → fits_general long g ≡ true → digits_of long < length r → digits_of long < length s → (j : ℕ) → j ≤ digits_of long → get_or (put_general (digits_of long) s g) j 0 ≡ get_or (put_general (digits_of long) r g) j 0
time_any long g r s f h l j u =
    let n = digits_of long in
    let b = put_general n r g in
    let k = reads_answer b 0 (n + 1) (is_general n b 0) (general_at n b 0) g (general_back long r g f (omega arith)) in
    let o : 0 + n ≡ n = omega arith in
    let i : 0 + j ≡ j = omega arith in
    let z : get_or b (0 + n) 0 ≡ 90 = rw o (general_zed n r g (width_low long) h) in
    ap (λ (x : Option Moment). get_or (put_general n s x) j 0) (sym k.2) ∙ general_again long b 0 s l z k.1 j u ∙ ap (λ (q : ℕ). get_or b q 0) i

pub value_any : (k : ℕ) (x : Value) (r s : List ℕ) → k < 72 → fits k x ≡ true → width_of k ≤ length r → width_of k ≤ length s → (j : ℕ) → j < width_of k → get_or (put k x s) j 0 ≡ get_or (put k x r) j 0
value_any k (text t) r s o f h l j u =
    let n = text_wide (width_of k) t (is_text (kind_of k) (width_of k) t f).1 in
    get_or-append t (drop (length t) s) 0 j (omega arith) ∙ sym (get_or-append t (drop (length t) r) 0 j (omega arith))
value_any k (number x) r s o f h l j u = number_any (width_of k) x r s (number_fits_lem (kind_of k) (width_of k) x f) h l j u
value_any k (time g) r s o f h l j u =
    let w = time_wide k g o f in
    time_any (is_long (kind_of k)) g r s (time_fits_lem (kind_of k) g f) (omega arith) (omega arith) j (omega arith)

-- ---- A LINE THAT WAS WRITTEN
record Line (b : List ℕ) (k : ℕ) (x : Value) : Type 0 where
  room : List ℕ
  large : width_of k + 33 ≤ length room
  put_is : Put k (put k x) room
  stands : Stands b k (put_line k (put k x) room)

stands_in : {b exit new : List ℕ} {k n : ℕ} → Has b (line_start k) n exit → exit ≡ new → n ≡ width_of k + 33 → Stands b k new
stands_in f e q = record { byte = λ j h. f j (omega arith) ∙ ap (λ (x : List ℕ). get_or x j 0) e }

line_of : (b : List ℕ) (k : ℕ) (x : Value) → LineIn b k x → Line b k x
line_of b k (text t) l =
    let d = line_written l.room l.exit l.count k (text_on k t) (λ (a : List ℕ). put_text a t) l.wrote in
    record { room = l.room; large = d.room_is; put_is = text_put k t l.room d.fits d.room_is; stands = stands_in l.has d.left d.bytes }
line_of b k (number x) l =
    let d = line_written l.room l.exit l.count k (number_on k x) (λ (a : List ℕ). put_number (width_of k) a x) l.wrote in
    record { room = l.room; large = d.room_is; put_is = number_put k x l.room d.fits d.room_is; stands = stands_in l.has d.left d.bytes }
line_of b k (time g) l =
    let d = line_written l.room l.exit l.count k (time_on k g) (λ (a : List ℕ). put_general (digits_of (is_long (kind_of k))) a g) l.wrote in
    record { room = l.room; large = d.room_is; put_is = time_put k g l.room d.fits d.room_is; stands = stands_in l.has d.left d.bytes }

module _ (b : List ℕ) (k : ℕ) (x : Value) (o : k < 72) (f : fits k x ≡ true) (l : Line b k x) where
  frame_long : length (put_frame k (width_of k) l.room) ≡ length l.room
  frame_long = frame_length k (width_of k) l.room

  taken : length (take 32 (put_frame k (width_of k) l.room)) ≡ 32
  taken = length-take-le 32 (put_frame k (width_of k) l.room) (omega (arith, frame_long, l.large))

  written_framed : framed b k ≡ true
  written_framed = line_framed k (put k x) l.room l.put_is b l.stands

  written_value : (j : ℕ) → j < width_of k → get_or b (line_start k + 32 + j) 0 ≡ get_or (put k x (value_room k)) j 0
  written_value j u =
      let fr = put_frame k (width_of k) l.room in
      let e : line_start k + 32 + j ≡ line_start k + (32 + j) = omega arith in
      let q : 32 + j ≡ length (take 32 fr) + j = omega (arith, taken) in
      ap (λ (i : ℕ). get_or b i 0) e
      ∙ l.stands.byte (32 + j) (omega arith)
      ∙ ap (λ (i : ℕ). get_or (take 32 fr ++ put k x (drop 32 fr)) i 0) q
      ∙ get_or-append-add (take 32 fr) (put k x (drop 32 fr)) j 0
      ∙ value_any k x (value_room k) (drop 32 fr) o f (omega (arith, value_room_lem k)) (omega (arith, length-drop 32 fr, frame_long, l.large)) j u

-- ---- A HEADER, INTO ANY ROOM
header_any : (a : List ℕ) (h : Header) → 20 ≤ length a → (k : ℕ) → k < 20 → get_or (put_header a h) k 0 ≡ get_or (put_header (room 20) h) k 0
header_any a h l k u =
    let f = header_fields a h in
    let g = header_fields (room 20) h in
    let bs : (k : ℕ) → get_or (F.put (room 20) 0 (fields_of h)) k 0 < 256 = rw g at (header_bytes h) in
    let e = held_again a (F.put (room 20) 0 (fields_of h)) 0 0 (fields_of h) bs l (put_held (room 20) 0 (fields_of h) (omega (arith, room_long 20))) k u in
    let z : 0 + k ≡ k = omega arith in
    rw (f, g) (rw z at e)

pointer_any : (a : List ℕ) (p : Pointer) → 27 ≤ length a → (k : ℕ) → k < 27 → get_or (put_pointer a p) k 0 ≡ get_or (put_pointer (room 27) p) k 0
pointer_any a p l k u =
    let f = pointer_fields_lem a p in
    let g = pointer_fields_lem (room 27) p in
    let bs : (k : ℕ) → get_or (F.put (room 27) 0 (pointer_fields p)) k 0 < 256 = rw g at (pointer_bytes p) in
    let e = held_again a (F.put (room 27) 0 (pointer_fields p)) 0 0 (pointer_fields p) bs l (put_held (room 27) 0 (pointer_fields p) (omega (arith, room_long 27))) k u in
    let z : 0 + k ≡ k = omega arith in
    rw (f, g) (rw z at e)

-- ---- THE RECORDS
header_in : (b : List ℕ) (i : ℕ) (h : Header) → HeaderIn b i h → At b i (put_header (room 20) h)
header_in b i h l =
    let d = done l.room 20 (is_header h) (put_header l.room h) l.exit 21 l.count l.wrote.0 l.wrote.1 in
    record { byte = λ j u. let q : j < 20 = omega (arith, header_long h) in l.has j (omega (arith, d.bytes)) ∙ ap (λ (x : List ℕ). get_or x j 0) d.left ∙ header_any l.room h d.room_is j q }

pointer_in : (b : List ℕ) (i : ℕ) (p : Pointer) → PointerIn b i p → At b i (put_pointer (room 27) p)
pointer_in b i p l =
    let d = done l.room 27 (is_pointer p) (put_pointer l.room p) l.exit 21 l.count l.wrote.0 l.wrote.1 in
    record { byte = λ j u. let q : j < 27 = omega (arith, pointer_long p) in l.has j (omega (arith, d.bytes)) ∙ ap (λ (x : List ℕ). get_or x j 0) d.left ∙ pointer_any l.room p d.room_is j q }

at_join : {b : List ℕ} {i : ℕ} (x y : List ℕ) → At b i x → At b (i + length x) y → At b i (x ++ y)
at_join {b} {i} x y s t = record { byte = λ j h. go j h (dec_lt j (length x)) }
  where
    go : (j : ℕ) → j < length (x ++ y) → Dec (j < length x) → get_or b (i + j) 0 ≡ get_or (x ++ y) j 0
    go j h (yes l) = s.byte j l ∙ sym (get_or-append x y 0 j l)
    go j h (no l) =
        let q : i + length x + (j - length x) ≡ i + j = omega (arith, l) in
        let p : length x + (j - length x) ≡ j = omega (arith, l) in
        rw q at (t.byte (j - length x) (omega (arith, l, length-append x y))) ∙ sym (get_or-append-add x y (j - length x) 0) ∙ ap (λ (k : ℕ). get_or (x ++ y) k 0) p

rec_in : (b : List ℕ) (i : ℕ) (x : Rec) → RecIn b i x → At b i (rec_of x)
unfolding rec_of
rec_in b i (plain h d) (l, f) =
    let e : i + 20 ≡ i + length (put_header (room 20) h) = omega (arith, header_long h) in
    at_join (put_header (room 20) h) d (header_in b i h l) (record { byte = λ j u. rw (sym e) (f j u) })
rec_in b i (pointer p) l = pointer_in b i p l

recs_in : (b : List ℕ) (i : ℕ) (l : List Rec) → ((x : Rec) → In x l → RightRec x) → RecsIn b i l → At b i (joined l) × (length b ≡ i + length (joined l))
recs_in b i [] f e = (record { byte = λ j u. absurd (omega arith) }, omega arith)
recs_in b i (x ∷ l) f (r, t) =
    let m = (made x (f x (top refl))).long in
    let k = recs_in b (i + length (rec_of x)) l (λ y n. f y (pop n)) (rw m t) in
    (at_join (rec_of x) (joined l) (rec_in b i x r) k.0, omega (arith, k.1, length-append (rec_of x) (joined l)))

-- THE LAW
module _ (b : List ℕ) (v : Values) (r : Right v) (a : Assembled b v) where
  rest : At b 3307 (joined v.records) × (length b ≡ 3307 + length (joined v.records))
  rest = recs_in b 3307 v.records r.records a.records

  line_in_lem : (k : ℕ) (h : k < 72) → Line (take 3307 b) k (line_in v k)
  line_in_lem k h =
      let l = line_of b k (line_in v k) (a.lines k h) in
      record {
        room = l.room;
        large = l.large;
        put_is = l.put_is;
        stands = record { byte = λ j u. get_or-take 3307 b (line_start k + j) 0 (omega (arith, start_next k, start_mono {j = suc k} {k = 72} h, start_72)) ∙ l.stands.byte j u };
      }

  line_room_is : (k : ℕ) → k < 72 → line_start k + 32 + width_of k ≤ 3307
  line_room_is k h = omega (arith, start_next k, start_mono {j = suc k} {k = 72} h, start_72)

  values_same : (k : ℕ) → k < 72 → value_of (take 3307 b) k ≡ value_of (main_of v) k
  values_same k h =
      let p = line_start k + 32 in
      let w = width_of k in
      let n : length (main_of v) ≡ 3307 = main_long v r in
      let q : length (take 3307 b) ≡ 3307 = length-take-le 3307 b (omega (arith, rest.1)) in
      let x : length (value_of (take 3307 b) k) ≡ w = length-take-le w (drop p (take 3307 b)) (omega (arith, length-drop p (take 3307 b), line_room_is k h)) in
      let y : length (value_of (main_of v) k) ≡ w = length-take-le w (drop p (main_of v)) (omega (arith, length-drop p (main_of v), line_room_is k h)) in
      ext_get_or 0 (value_of (take 3307 b) k) (value_of (main_of v) k) (x ∙ sym y) (λ j u. byte k h j (omega (arith, x)))
    where
      byte : (k : ℕ) → k < 72 → (j : ℕ) → j < width_of k → get_or (value_of (take 3307 b) k) j 0 ≡ get_or (value_of (main_of v) k) j 0
      byte k h j l =
          get_or-take (width_of k) (drop (line_start k + 32) (take 3307 b)) j 0 l
          ∙ get_or-drop (line_start k + 32) (take 3307 b) j 0
          ∙ written_value (take 3307 b) k (line_in v k) h (r.lines k h) (line_in_lem k h) j l
          ∙ sym (get_or-take (width_of k) (drop (line_start k + 32) (main_of v)) j 0 l ∙ get_or-drop (line_start k + 32) (main_of v) j 0 ∙ value_byte v r k h j l)

  start_same : (j : ℕ) → j < 20 → get_or (take 3307 b) j 0 ≡ get_or (main_of v) j 0
  unfolding main_of
  start_same j h =
      let p = put_header (room 20) v.header in
      let z : 0 + j ≡ j = omega arith in
      get_or-take 3307 b j 0 (omega arith)
      ∙ rw z at ((header_in b 0 v.header a.header).byte j (omega (arith, header_long v.header)))
      ∙ sym (get_or-append p (lines_from 0 v.lines) 0 j (omega (arith, header_long v.header)))

  main_same : take 3307 b ≡ main_of v
  main_same =
      one_header record {
        long = (length-take-le 3307 b (omega (arith, rest.1)), main_long v r);
        start = start_same;
        frames = λ k h. (written_framed (take 3307 b) k (line_in v k) h (r.lines k h) (line_in_lem k h), ((main_header v r).lines k h).0);
        values = values_same;
      }

  rest_same : drop 3307 b ≡ joined v.records
  rest_same =
      ext_get_or 0 (drop 3307 b) (joined v.records) (omega (arith, length-drop 3307 b, rest.1)) (λ j h. get_or-drop 3307 b j 0 ∙ rest.0.byte j (omega (arith, length-drop 3307 b, rest.1)))

  pub assembled_print : b ≡ print v
  assembled_print = sym (take-append-drop 3307 b) ∙ ap (λ (x : List ℕ). x ++ drop 3307 b) main_same ∙ ap (λ (x : List ℕ). main_of v ++ x) rest_same
