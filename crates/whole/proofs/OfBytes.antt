-- WHAT IS PRINTED IS BYTES: each writer sets bytes in a room of bytes. Assumes nothing.
use mathlib.Core.Path.{◌≡◌, refl}
use mathlib.Core.Bool.{Bool, true, false}
use mathlib.Core.List.Memᴰ.{head as top}
use mathlib.Core.List.Memᴰ.{tail as pop}
use mathlib.Core.List.{List, [], ◌∷◌, ◌++◌, Memᴰ as In}
use Prim.Native.Nat.{ℕ, zero, suc, ◌+◌, ◌-◌, ◌*◌, ◌/◌, ◌%◌, ◌<◌}
use native.Mathlib.Decide.{ℕ_discrete, dec_lt}
use native.Mathlib.Omega.{arith}
use borrow.Author.Tests.{eq-eqb, ne_eqb, ltb-true}
use lib.Dec.{eqb, ltb}
use lib.IntN.{nat_abs}
use lib.ListN.{length, get_or, set, take, drop, length-take, get_or-append, get_or-eq_default as past, get_or-replicate, length-replicate}
use lib.Seq.{get_or-set_same, get_or-set_other, set_out, get_or-append-add, get_or-take, get_or-drop}
use Rattle.meter.specs.Integer.{Bytes, stored}
use Rattle.meter.specs.General.{digits_of, put_digits, put_moment, put_x, put_general}
use Rattle.meter.specs.Time.{bits_of}
use Rattle.std.specs.declared.option.Option.TheVariants.{Some, None}
use Rattle.std.specs.declared.option.Option.{Option}
use Rattle.std.specs.Prelude.{ℤ}
use Rattle.meter.specs.declared.general.Moment.{Moment}
use Rattle.meter.proofs.GeneralRuns.{and_true, each_in}
use Rattle.record.specs.Header.{put_header}
use Rattle.record.specs.Pointer.{put_pointer}
use Rattle.record.specs.declared.header.Header.{Header}
use Rattle.record.specs.declared.pointer.Pointer.{Pointer}
use Rattle.text.specs.Writing.{below, mark, still, put_rest, put_number, fits_text}
use Rattle.text.proofs.Laws.{text_wide}
use Rattle.mphr.specs.Layout.{fields, rows, names, width_of, kind_of}
use Rattle.mphr.specs.Lines.{is_long, put_name, put_frame}
use Rattle.mphr.specs.NameTable.{all}
use Rattle.mphr.proofs.WritingLaws.{is_text}
use Rattle.whole.specs.Values.{Value, text, number, time, Rec, plain, pointer, Values, room, put, line_of, lines_from, main_of, rec_of, joined, print, fits, RightRec, Right}

-- ---- lists of bytes
record Of (a : List ℕ) : Type 0 where
  byte : (k : ℕ) → get_or a k 0 < 256

of_set : {a : List ℕ} (i x : ℕ) → Of a → x < 256 → Of (set a i x)
of_set {a} i x b h = record { byte = λ k. go k (ℕ_discrete k i) (dec_lt i (length a)) }
  where
    go : (k : ℕ) → Dec (k ≡ i) → Dec (i < length a) → get_or (set a i x) k 0 < 256
    go k (yes e) (yes l) = rw (e, get_or-set_same a i x 0 l) h
    go k (yes e) (no l) = rw (set_out a i x (omega (arith, l))) (b.byte k)
    go k (no d) _ = rw (get_or-set_other a i k x 0 d) (b.byte k)

of_append : (x y : List ℕ) → Of x → Of y → Of (x ++ y)
of_append x y b c = record { byte = λ k. go k (dec_lt k (length x)) }
  where
    go : (k : ℕ) → Dec (k < length x) → get_or (x ++ y) k 0 < 256
    go k (yes h) = rw (get_or-append x y 0 k h) (b.byte k)
    go k (no h) =
        let e : length x + (k - length x) ≡ k = omega (arith, h) in
        let f = get_or-append-add x y (k - length x) 0 in
        rw (rw e at f) (c.byte (k - length x))

of_drop : (n : ℕ) (a : List ℕ) → Of a → Of (drop n a)
of_drop n a b = record { byte = λ k. rw (get_or-drop n a k 0) (b.byte (n + k)) }

of_take : (n : ℕ) (a : List ℕ) → Of a → Of (take n a)
of_take n a b = record { byte = λ k. go k (dec_lt k n) }
  where
    go : (k : ℕ) → Dec (k < n) → get_or (take n a) k 0 < 256
    go k (yes h) = rw (get_or-take n a k 0 h) (b.byte k)
    go k (no h) = rw (past (take n a) 0 {n = k} (omega (arith, h, length-take n a))) (omega arith)

of_room : (n : ℕ) → Of (room n)
of_room n = record { byte = λ k. go k (dec_lt k n) }
  where
    go : (k : ℕ) → Dec (k < n) → get_or (room n) k 0 < 256
    go k (yes h) = rw (get_or-replicate {A = ℕ} n k 0 0 h) (omega arith)
    go k (no h) = rw (past (room n) 0 {n = k} (omega (arith, h, length-replicate {A = ℕ} n 0))) (omega arith)

of_nil : Of []
of_nil = record { byte = λ k. omega arith }

-- ---- the writers
of_stored : (a : List ℕ) (i n v : ℕ) → Of a → Of (stored a i n v)
unfolding stored
of_stored a i zero v b = b
of_stored a i (suc n) v b = of_stored (set a (i + n) (v % 256)) i n (v / 256) (of_set (i + n) (v % 256) b (omega arith))

of_header : (a : List ℕ) (h : Header) → Of a → Of (put_header a h)
unfolding put_header
of_header a h b =
    of_stored _ 14 6 (bits_of h.stop) (of_stored _ 8 6 (bits_of h.start) (of_stored _ 4 4 h.size (of_stored _ 3 1 h.version (of_stored _ 2 1 h.subclass (of_stored _ 1 1 h.group (of_stored a 0 1 h.class b))))))

of_pointer : (a : List ℕ) (p : Pointer) → Of a → Of (put_pointer a p)
unfolding put_pointer
of_pointer a p b = of_stored _ 23 4 p.offset (of_stored _ 22 1 p.subclass (of_stored _ 21 1 p.group (of_stored _ 20 1 p.class (of_header a p.header b))))

of_digits : (a : List ℕ) (i n v : ℕ) → Of a → Of (put_digits a i n v)
unfolding put_digits
of_digits a i zero v b = b
of_digits a i (suc n) v b = of_digits (set a (i + n) (48 + v % 10)) i n (v / 10) (of_set (i + n) (48 + v % 10) b (omega arith))

of_x : (a : List ℕ) (n : ℕ) → Of a → Of (put_x a n)
unfolding put_x
of_x a zero b = b
of_x a (suc n) b = of_x (set a n 120) n (of_set n 120 b (omega arith))

of_general : (n : ℕ) (a : List ℕ) (g : Option Moment) → Of a → Of (put_general n a g)
unfolding put_moment
of_general n a None b = of_set n 90 (of_x a n b) (omega arith)
of_general n a (Some t) b =
    of_set n 90 (of_digits _ 14 (n - 14) t.milli (of_digits _ 12 2 t.second (of_digits _ 10 2 t.minute (of_digits _ 8 2 t.hour (of_digits _ 6 2 t.date.day (of_digits _ 4 2 t.date.month (of_digits a 0 4 t.date.year b))))))) (omega arith)

of_mark : (minus : Bool) (v : ℕ) → mark minus v < 256
of_mark minus v = go (ℕ_discrete v 0) minus
  where
    go : Dec (v ≡ 0) → (minus : Bool) → mark minus v < 256
    go (yes z) true = rw (eq-eqb v 0 z) (omega arith)
    go (yes z) false = rw (eq-eqb v 0 z) (omega arith)
    go (no d) minus = rw (ne_eqb v 0 d) (omega arith)

of_rest : (a : List ℕ) (n : ℕ) (minus : Bool) (v : ℕ) → Of a → Of (put_rest a n minus v)
unfolding put_rest
of_rest a zero minus v b = b
of_rest a (suc n) minus v b = of_rest (set a n (mark minus v)) n (still minus v) (v / 10) (of_set n (mark minus v) b (of_mark minus v))

of_number : (w : ℕ) (a : List ℕ) (x : Option ℤ) → Of a → Of (put_number w a x)
of_number w a None b = of_x a w b
of_number w a (Some z) b = of_rest (set a (w - 1) (48 + nat_abs z % 10)) (w - 1) (below z) (nat_abs z / 10) (of_set (w - 1) (48 + nat_abs z % 10) b (omega arith))

of_text : (w : ℕ) (t : List ℕ) → fits_text w t ≡ true → Of t
of_text w t f = record { byte = λ k. go k (dec_lt k w) }
  where
    go : (k : ℕ) → Dec (k < w) → get_or t k 0 < 256
    go k (yes h) =
        let z : 0 + k ≡ k = omega arith in
        omega (arith, rw z at (each_in 32 126 t 0 w (and_true (eqb (length t) w) _ f).1 k h))
    go k (no h) = rw (past t 0 {n = k} (omega (arith, h, text_wide w t f))) (omega arith)

of_value : (k : ℕ) (x : Value) (a : List ℕ) → fits k x ≡ true → Of a → Of (put k x a)
of_value k (text t) a f b = of_append t (drop (length t) a) (of_text (width_of k) t (is_text (kind_of k) (width_of k) t f).1) (of_drop (length t) a b)
of_value k (number x) a f b = of_number (width_of k) a x b
of_value k (time g) a f b = of_general (digits_of (is_long (kind_of k))) a g b

-- ---- a line
names_small : all (λ (x : ℕ). ltb x 256) names ≡ true
unfolding names rows fields
names_small = refl

pub all_small : (l : List ℕ) → all (λ (x : ℕ). ltb x 256) l ≡ true → Bytes l
all_small [] e k = omega arith
all_small (x ∷ l) e zero = ltb-true x 256 (and_true (ltb x 256) _ e).0
all_small (x ∷ l) e (suc k) = all_small l (and_true (ltb x 256) _ e).1 k

of_name : (a : List ℕ) (k n : ℕ) → Of a → Of (put_name a k n)
unfolding put_name
of_name a k zero b = b
of_name a k (suc n) b = of_name (set a n (get_or names (30 * k + n) 0)) k n (of_set n (get_or names (30 * k + n) 0) b (all_small names names_small (30 * k + n)))

of_frame : (k w : ℕ) (a : List ℕ) → Of a → Of (put_frame k w a)
unfolding put_frame
of_frame k w a b = of_set (32 + w) 10 (of_set 31 32 (of_set 30 61 (of_name a k 30 b) (omega arith)) (omega arith)) (omega arith)

of_line : (k : ℕ) (x : Value) → fits k x ≡ true → Of (line_of k x)
unfolding line_of
of_line k x f =
    let w = width_of k in
    let b = of_frame k w (room (w + 33)) (of_room (w + 33)) in
    of_append (take 32 (put_frame k w (room (w + 33)))) (put k x (drop 32 (put_frame k w (room (w + 33))))) (of_take 32 (put_frame k w (room (w + 33))) b) (of_value k x (drop 32 (put_frame k w (room (w + 33)))) f (of_drop 32 (put_frame k w (room (w + 33))) b))

of_lines : (k : ℕ) (l : List Value) → ((j : ℕ) → j < length l → fits (k + j) (get_or l j (text [])) ≡ true) → Of (lines_from k l)
of_lines k [] f = of_nil
of_lines k (x ∷ l) f =
    let z : k + 0 ≡ k = omega arith in
    let c : (i : ℕ) → suc k + i ≡ k + suc i = λ i. omega arith in
    of_append (line_of k x) (lines_from (suc k) l) (of_line k x (rw z at (f 0 (omega arith)))) (of_lines (suc k) l (λ j h. rw (c j) (f (suc j) (omega arith))))

-- ---- a record
of_rec : (x : Rec) → RightRec x → Of (rec_of x)
unfolding rec_of
of_rec (plain h d) r = of_append (put_header (room 20) h) d (of_header (room 20) h (of_room 20)) (record { byte = r.bytes })
of_rec (pointer p) r = of_pointer (room 27) p (of_room 27)

of_recs : (l : List Rec) → ((x : Rec) → In x l → RightRec x) → Of (joined l)
of_recs [] f = of_nil
of_recs (x ∷ l) f = of_append (rec_of x) (joined l) (of_rec x (f x (top refl))) (of_recs l (λ y n. f y (pop n)))

pub header_bytes : (h : Header) → Bytes (put_header (room 20) h)
header_bytes h = (of_header (room 20) h (of_room 20)).byte

pub pointer_bytes : (p : Pointer) → Bytes (put_pointer (room 27) p)
pointer_bytes p = (of_pointer (room 27) p (of_room 27)).byte

-- THE LAW
pub print_bytes : (v : Values) → Right v → Bytes (print v)
unfolding main_of
print_bytes v r =
    (of_append (main_of v) (joined v.records)
    (of_append (put_header (room 20) v.header) (lines_from 0 v.lines) (of_header (room 20) v.header (of_room 20)) (of_lines 0 v.lines (λ j h. let z : 0 + j ≡ j = omega arith in rw z (r.lines j (omega (arith, r.long))))))
    (of_recs v.records r.records)
    ).byte
