-- THE THIRD LAW: what is printed says what was printed. So right values with the same bytes are the same. Assumes nothing.
use mathlib.Core.Path.{◌≡◌, refl, sym, ap, ◌∙◌, subst}
use mathlib.Core.Bool.{Bool, true, true≢false, cond}
use mathlib.Core.List.Memᴰ.{head as top}
use mathlib.Core.List.Memᴰ.{tail as pop}
use mathlib.Core.List.{List, [], ◌∷◌, ◌++◌, Memᴰ as In}
use Prim.Native.Nat.{ℕ, suc, ◌+◌, ◌-◌, ◌≤◌, ◌<◌}
use native.Mathlib.Omega.{arith}
use borrow.Author.Tests.{eq-eqb, ne_eqb}
use lib.ListN.{length, take, drop, length-append, length-drop, get_or-append}
use lib.Seq.{length-take-le, get_or-take, get_or-drop, ext_get_or}
use Rattle.meter.specs.General.{digits_of, is_general, general_at}
use Rattle.std.specs.declared.option.Option.{Option}
use Rattle.std.specs.Prelude.{ℤ}
use Rattle.meter.specs.declared.general.Moment.{Moment}
use Rattle.meter.proofs.ReadsBack.{reads_answer}
use Rattle.record.specs.Header.{header_at, put_header}
use Rattle.record.specs.Pointer.{pointer_at, put_pointer}
use Rattle.record.specs.declared.header.Header.{Header}
use Rattle.record.specs.declared.pointer.Pointer.{Pointer}
use Rattle.text.specs.Field.{is_numeric, number_at}
use Rattle.text.specs.declared.Kind.{Kind}
use Rattle.text.specs.declared.Kind.TheVariants.{Text, Unsigned, Count, Signed, Time, LongTime}
use Rattle.mphr.specs.Layout.{width_of, kind_of, line_start}
use Rattle.mphr.specs.Lines.{number_fits, time_fits, is_long, put_line}
use Rattle.mphr.proofs.LayoutLaws.{start_next, start_mono, start_72}
use Rattle.mphr.proofs.WritingLaws.{is_text}
use Rattle.mphr.proofs.LineBack.{Stands, text_line_back, number_line_back, time_line_back}
use Rattle.demands.specs.Product.{class, size, Meets}
use Rattle.demands.proofs.Accepted.{one_list}
use Rattle.parts.specs.Parts.{starts_from}
use Rattle.parts.proofs.Built.{built_meets, built_list}
use Rattle.parts.proofs.Local.{At, at_left, at_right, at_end}
use Rattle.whole.specs.Values.{Value, text, number, time, Rec, plain, pointer, Values, room, put, main_of, rec_of, recs_of, joined, print, fits, RightPlain, RightPointer, RightRec, line_in, Right}
use Rattle.whole.specs.Parse.{value_at, line_at, lines_at, rec_at, recs_at, parse_at}
use Rattle.whole.proofs.Heads.{header_at_lem, pointer_at_lem, header_long, pointer_long, header_back, pointer_back}
use Rattle.whole.proofs.Lines.{text_on_lem, number_on_lem, time_on_lem, line_room}
use Rattle.whole.proofs.Printed.{class_of, size_of, main_long, main_head, main_stands, print_built, print_is}
use Rattle.whole.proofs.Parsed.{lines_length, line_in_lem}

first_byte : (a : List ℕ) (i : ℕ) (p : Pointer) → pointer_at a i ≡ p → class a i ≡ p.header.class
unfolding pointer_at header_at
first_byte a i p e = ap (λ (x : Pointer). x.header.class) e

-- ---- A RECORD THAT STANDS
module _ (a : List ℕ) where
  plain_back : (i : ℕ) (h : Header) (d : List ℕ) → RightPlain h d → At a i (put_header (room 20) h ++ d) → i + 20 + length d ≤ length a → rec_at a i ≡ plain h d
  unfolding rec_at
  plain_back i h d r t l =
      let p = put_header (room 20) h in
      let e : header_at a i ≡ h = header_at_lem (at_left p d t) (omega (arith, header_long h)) ∙ header_back h r.header in
      let c : class a i ≡ h.class = class_of a i h e in
      let z : size a i - 20 ≡ length d = omega (arith, size_of a i h e, r.sized) in
      let s = rw (header_long h) at (at_right p d t) in
      let n : length (take (length d) (drop (i + 20) a)) ≡ length d = length-take-le (length d) (drop (i + 20) a) (omega (arith, length-drop (i + 20) a)) in
      let f : take (length d) (drop (i + 20) a) ≡ d = ext_get_or 0 (take (length d) (drop (i + 20) a)) d n (λ j u. let v : j < length d = omega arith in get_or-take (length d) (drop (i + 20) a) j 0 v ∙ get_or-drop (i + 20) a j 0 ∙ s.byte j v) in
      ap (λ (b : Bool). cond b (pointer (pointer_at a i)) (plain (header_at a i) (take (size a i - 20) (drop (i + 20) a)))) (ne_eqb (class a i) 3 (λ q. r.other (sym c ∙ q)))
      ∙ ap (λ (x : Header). plain x (take (size a i - 20) (drop (i + 20) a))) e
      ∙ ap (λ (n : ℕ). plain h (take n (drop (i + 20) a))) z
      ∙ ap (plain h) f

  pointer_is : (i : ℕ) (p : Pointer) → RightPointer p → At a i (put_pointer (room 27) p) → rec_at a i ≡ pointer p
  unfolding rec_at
  pointer_is i p r t =
      let e : pointer_at a i ≡ p = pointer_at_lem t (omega (arith, pointer_long p)) ∙ pointer_back p r in
      let c : class a i ≡ 3 = first_byte a i p e ∙ r.is_class in
      ap (λ (b : Bool). cond b (pointer (pointer_at a i)) (plain (header_at a i) (take (size a i - 20) (drop (i + 20) a)))) (eq-eqb (class a i) 3 c) ∙ ap pointer e

  rec_back : (i : ℕ) (x : Rec) → RightRec x → At a i (rec_of x) → i + length (rec_of x) ≤ length a → rec_at a i ≡ x
  unfolding rec_of
  rec_back i (plain h d) r t l = plain_back i h d r t (omega (arith, header_long h, length-append (put_header (room 20) h) d))
  rec_back i (pointer p) r t l = pointer_is i p r t

  recs_back : (i : ℕ) (l : List Rec) → ((x : Rec) → In x l → RightRec x) → At a i (joined l) → i + length (joined l) ≤ length a → recs_at a (starts_from i (recs_of l)) ≡ l
  recs_back i [] f t h = refl
  recs_back i (x ∷ l) f t h =
      let n = length-append (rec_of x) (joined l) in
      ap (λ (y : Rec). y ∷ recs_at a (starts_from (i + length (rec_of x)) (recs_of l))) (rec_back i x (f x (top refl)) (at_left (rec_of x) (joined l) t) (omega arith))
      ∙ ap (λ (y : List Rec). x ∷ y) (recs_back (i + length (rec_of x)) l (λ y n. f y (pop n)) (at_right (rec_of x) (joined l) t) (omega arith))

-- ---- A LINE THAT STANDS
number_kind : (d : Kind) (w : ℕ) (x : Option ℤ) (a : List ℕ) (i : ℕ) → number_fits d w x ≡ true → number_at a i w ≡ x → value_at d a i w ≡ number x
unfolding number_fits
number_kind Text w x a i f e = absurd (true≢false (sym f))
number_kind Unsigned w x a i f e = ap number e
number_kind Count w x a i f e = ap number e
number_kind Signed w x a i f e = ap number e
number_kind Time w x a i f e = absurd (true≢false (sym f))
number_kind LongTime w x a i f e = absurd (true≢false (sym f))

time_kind : (d : Kind) (w : ℕ) (g : Option Moment) (a : List ℕ) (i : ℕ) → time_fits d g ≡ true → general_at (digits_of (is_long d)) a i ≡ g → value_at d a i w ≡ time g
unfolding time_fits is_long
time_kind Text w g a i f e = absurd (true≢false (sym f))
time_kind Unsigned w g a i f e = absurd (true≢false (sym f))
time_kind Count w g a i f e = absurd (true≢false (sym f))
time_kind Signed w g a i f e = absurd (true≢false (sym f))
time_kind Time w g a i f e = ap time e
time_kind LongTime w g a i f e = ap time e

pub line_back : (b : List ℕ) (k : ℕ) (x : Value) → k < 72 → fits k x ≡ true → Stands b k (put_line k (put k x) (room (width_of k + 33))) → line_start k + 32 + width_of k ≤ length b → line_at b k ≡ x
unfolding line_at
line_back b k (text t) h f s l =
    let e = text_line_back k t (room (width_of k + 33)) (text_on_lem k t h f) (line_room k) b s l in
    rw (is_text (kind_of k) (width_of k) t f).0 (ap text e)
line_back b k (number x) h f s l =
    let e = number_line_back k x (room (width_of k + 33)) (number_on_lem k x h f) (line_room k) b s l in
    let w = width_of k in
    let i = line_start k + 32 in
    number_kind (kind_of k) w x b i f (reads_answer b i w (is_numeric true b i w) (number_at b i w) x e).2
line_back b k (time g) h f s l =
    let e = time_line_back k g (room (width_of k + 33)) (time_on_lem k g h f) (line_room k) b s l in
    let n = digits_of (is_long (kind_of k)) in
    let i = line_start k + 32 in
    time_kind (kind_of k) (width_of k) g b i f (reads_answer b i (n + 1) (is_general n b i) (general_at n b i) g e).2

-- ---- THE LAW
module _ (v : Values) (r : Right v) where
  print_long : length (print v) ≡ 3307 + length (joined v.records)
  print_long = length-append (main_of v) (joined v.records) ∙ omega (arith, main_long v r)

  pub print_main : At (print v) 0 (main_of v)
  print_main = record { byte = λ j h. let z : 0 + j ≡ j = omega arith in rw z (get_or-append (main_of v) (joined v.records) 0 j h) }

  pub print_stands : (k : ℕ) → k < 72 → Stands (print v) k (put_line k (put k (line_in v k)) (room (width_of k + 33)))
  print_stands k h = record {
    byte = λ j l.
        get_or-append (main_of v) (joined v.records) 0 (line_start k + j) (omega (arith, main_long v r, start_next k, start_mono {j = suc k} {k = 72} h, start_72))
        ∙ (main_stands v r k h).byte j l;
  }

  pub print_come : (k : ℕ) → k < 72 → line_start k + 32 + width_of k ≤ length (print v)
  print_come k h = omega (arith, print_long, start_next k, start_mono {j = suc k} {k = 72} h, start_72)

  print_line : (k : ℕ) → k < 72 → line_at (print v) k ≡ line_in v k
  print_line k h = line_back (print v) k (line_in v k) h (r.lines k h) (print_stands k h) (print_come k h)

  print_lines : lines_at (print v) 0 72 ≡ v.lines
  print_lines =
      ext_get_or (text []) (lines_at (print v) 0 72) v.lines (lines_length (print v) 0 72 ∙ sym r.long)
      (λ k h. let l : k < 72 = omega (arith, lines_length (print v) 0 72) in line_in_lem (print v) [] k l ∙ print_line k l)

  print_head : header_at (print v) 0 ≡ v.header
  print_head = header_at_lem print_main (omega (arith, main_long v r)) ∙ main_head v r

  print_records : recs_at (print v) (starts_from 3307 (recs_of v.records)) ≡ v.records
  print_records = recs_back (print v) 3307 v.records r.records (rw (main_long v r) at (at_end (main_of v) (joined v.records))) (omega (arith, print_long))

  list_is : (m : Meets (print v)) → m.list ≡ starts_from 3307 (recs_of v.records)
  list_is =
      subst (λ (b : List ℕ). (m : Meets b) → m.list ≡ starts_from 3307 (recs_of v.records)) (print_is v r)
      (λ m. one_list m (built_meets (main_of v) (recs_of v.records) (print_built v r)) ∙ built_list (main_of v) (recs_of v.records) (print_built v r))

  pub parse_print : (m : Meets (print v)) → parse_at (print v) m.list ≡ v
  parse_print m = same print_head print_lines (ap (recs_at (print v)) (list_is m) ∙ print_records)
    where
      same : {h : Header} {l : List Value} {s : List Rec} → h ≡ v.header → l ≡ v.lines → s ≡ v.records → ◌≡◌ {A = Values} (record { header = h; lines = l; records = s }) v
      same e f g = rw (e, f, g)
