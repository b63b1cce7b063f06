-- THE FIRST LAW: the bytes of right values are a product. The main header fits the records, and the records tile the rest; so they are built, and what is
-- built meets the format (parts' Built). Assumes nothing.
use mathlib.Core.Path.{◌≡◌, refl, sym, ap, subst, ◌∙◌}
use mathlib.Core.Bool.{Bool, true, false, cond, not, ◌&&◌}
use mathlib.Core.List.Memᴰ.{head as top}
use mathlib.Core.List.Memᴰ.{not-nil as nil}
use mathlib.Core.List.Memᴰ.{tail as pop}
use mathlib.Core.List.{List, [], ◌∷◌, ◌++◌, Memᴰ as In}
use Prim.Native.Nat.{ℕ, suc, ◌+◌, ◌*◌, ◌≤◌, ◌<◌}
use native.Mathlib.Decide.{ℕ_discrete}
use native.Mathlib.Omega.{arith}
use borrow.Author.Tests.{ne_eqb}
use lib.Dec.{eqb}
use lib.IntN.{pos, nat_abs}
use lib.ListN.{length, get_or, length-append}
use Rattle.calendar.specs.Said.{answer}
use Rattle.meter.specs.Integer.{be_at}
use Rattle.meter.specs.Time.{is_time, time_at, compared}
use Rattle.meter.specs.General.{number_of}
use Rattle.std.specs.declared.option.Option.TheVariants.{Some, None}
use Rattle.std.specs.declared.option.Option.{Option}
use Rattle.meter.specs.declared.time.Time.{Time}
use Rattle.meter.proofs.ReadsBack.{reads_answer}
use Rattle.record.specs.Header.{header_at, put_header}
use Rattle.record.specs.Pointer.{pointer_at, put_pointer}
use Rattle.record.specs.Times.{is_after, timed_at}
use Rattle.record.specs.declared.header.Header.{Header}
use Rattle.record.specs.declared.pointer.Pointer.{Pointer}
use Rattle.record.proofs.HeaderLaws.{header_parts}
use Rattle.text.specs.Field.{is_x, is_numeric, integer_of, number_at, number_read_at}
use Rattle.mphr.specs.Layout.{width_of, line_start}
use Rattle.mphr.specs.Table.{headed, declared, total, sum, Sums}
use Rattle.mphr.specs.Lines.{put_line}
use Rattle.mphr.proofs.LayoutLaws.{start_next, start_mono, start_72}
use Rattle.mphr.proofs.LineBack.{Stands, line_framed, line_valued, number_line_back}
use Rattle.demands.specs.Product.{MainHeader, class, group, kind, size, target_class, target_kind, offset, Meets}
use Rattle.parts.specs.Parts.{Own, Follows, Begins, Aim, Pointed, Tiles, Built}
use Rattle.parts.specs.Parts as P
use Rattle.parts.proofs.Built.{built_meets}
use Rattle.parts.proofs.HeaderLaws.{one_sphr, follows_classes, one_class}
use Rattle.parts.proofs.Unique.{first_line}
use Rattle.parts.proofs.Local.{At, at_left, at_end}
use Rattle.whole.specs.Values.{text, Rec, plain, pointer, Values, head_of, room, put, line_of, lines_from, main_of, rec_of, recs_of, joined, print, fits, RightHeader, RightPointer, RightRec, Ordered, Meant, here, there, Aims, Aimed, bytes, count, line_in, whole, Right}
use Rattle.whole.proofs.Heads.{lead_of, header_at_lem, header_long, pointer_long, header_back, pointer_back}
use Rattle.whole.proofs.Numbers.{nat_abs_is}
use Rattle.whole.proofs.Lines.{number_on_lem, line_room, line_put, all_stand, all_long, stands_of}

pub at_self : (r : List ℕ) → At r 0 r
at_self r = record { byte = λ j h. let z : 0 + j ≡ j = omega arith in rw z }

-- ---- A HEADER THAT READS AS h
abbrev kind_from : ℕ → ℕ → ℕ → ℕ
kind_from c g s = (c * 256 + g) * 256 + s

be_three : (a : List ℕ) (i : ℕ) → be_at a i 3 ≡ kind_from (get_or a i 0) (get_or a (i + 1) 0) (get_or a (i + 2) 0)
unfolding be_at
be_three a i = let z : i + 0 ≡ i = omega arith in rw z (omega arith)

module _ (a : List ℕ) (i : ℕ) (h : Header) (e : header_at a i ≡ h) where
  pub class_of : class a i ≡ h.class
  unfolding header_at
  class_of = ap (λ (x : Header). x.class) e

  pub group_of : group a i ≡ h.group
  unfolding header_at
  group_of = ap (λ (x : Header). x.group) e

  pub subclass_of : get_or a (i + 2) 0 ≡ h.subclass
  unfolding header_at
  subclass_of = ap (λ (x : Header). x.subclass) e

  pub size_of : size a i ≡ h.size
  unfolding header_at
  size_of = ap (λ (x : Header). x.size) e

  start_of : time_at a (i + 8) ≡ h.start
  unfolding header_at
  start_of = ap (λ (x : Header). x.start) e

  stop_of : time_at a (i + 14) ≡ h.stop
  unfolding header_at
  stop_of = ap (λ (x : Header). x.stop) e

  kind_of : kind a i ≡ kind_from h.class h.group h.subclass
  kind_of = be_three a i ∙ rw (class_of, group_of, subclass_of)

  timed_with : (s t : Option Time) → time_at a (i + 8) ≡ s → time_at a (i + 14) ≡ t → is_time s ≡ true → is_time t ≡ true → is_after (compared s t) ≡ false → timed_at a i ≡ true
  unfolding timed_at
  timed_with s t p q u w f =
      ap (λ (x : Option Time). (is_time x && is_time (time_at a (i + 14))) && not (is_after (compared x (time_at a (i + 14))))) p
      ∙ ap (λ (x : Option Time). (is_time s && is_time x) && not (is_after (compared s x))) q
      ∙ rw (u, w, f)

  pub timed_of : RightHeader h → timed_at a i ≡ true
  timed_of r = let p = header_parts h r.form in timed_with h.start h.stop start_of stop_of p.1 p.2 r.timed

-- ---- A RECORD, by its own bytes
pub record Made (x : Rec) : Type 0 where
  pub long : length (rec_of x) ≡ (head_of x).size
  pub head : header_at (rec_of x) 0 ≡ head_of x
  pub right : RightHeader (head_of x)

pub head_of_lem : (a : List ℕ) (i : ℕ) (p : Pointer) → pointer_at a i ≡ p → header_at a i ≡ p.header
unfolding pointer_at
head_of_lem a i p e = ap (λ (x : Pointer). x.header) e

pub made : (x : Rec) → RightRec x → Made x
unfolding rec_of
made (plain h d) r = record {
  long = length-append (put_header (room 20) h) d ∙ omega (arith, header_long h, r.sized);
  head = header_at_lem (at_left (put_header (room 20) h) d (at_self (put_header (room 20) h ++ d))) (omega (arith, header_long h)) ∙ header_back h r.header;
  right = r.header;
}
made (pointer p) r = record {
  long = pointer_long p ∙ sym r.is_size;
  head = head_of_lem (put_pointer (room 27) p) 0 p (pointer_back p r);
  right = r.header;
}

pub made_own : (x : Rec) → RightRec x → Own (rec_of x)
made_own x r =
    let m = made x r in
    let l = lead_of m.right in
    let ec = class_of (rec_of x) 0 (head_of x) m.head in
    record {
      known = rw ec l.class;
      grouped = rw (group_of (rec_of x) 0 (head_of x) m.head) l.group;
      least = omega (arith, m.long, l.least);
      sized = size_of (rec_of x) 0 (head_of x) m.head ∙ sym m.long;
      ipr = λ c. m.long ∙ only x r (sym ec ∙ c);
      times = timed_of (rec_of x) 0 (head_of x) m.head m.right;
    }
  where
    only : (x : Rec) → RightRec x → (head_of x).class ≡ 3 → (head_of x).size ≡ 27
    only (plain h d) r c = absurd (r.other c)
    only (pointer p) r c = r.is_size

-- ---- THE RECORDS
pub recs_joined : (l : List Rec) → P.joined (recs_of l) ≡ joined l
recs_joined [] = refl
recs_joined (x ∷ l) = ap (λ (s : List ℕ). rec_of x ++ s) (recs_joined l)

abbrev AllRight : List Rec → Type 0
AllRight l = (x : Rec) → In x l → RightRec x

owns : (l : List Rec) → AllRight l → (r : List ℕ) → In r (recs_of l) → Own r
owns [] f r h = absurd (nil h)
owns (x ∷ l) f r (top e) = rw e (made_own x (f x (top refl)))
owns (x ∷ l) f r (pop h) = owns l (λ y n. f y (pop n)) r h

follows : (p : ℕ) (l : List Rec) → AllRight l → Ordered p l → Follows p (recs_of l)
follows p [] f o = tt
follows p (x ∷ l) f (e, o) =
    let c = class_of (rec_of x) 0 (head_of x) (made x (f x (top refl))).head in
    rw c (e, follows (head_of x).class l (λ y n. f y (pop n)) o)

begins : {i : ℕ} {l : List Rec} {p : Pointer} → AllRight l → Meant i l p → Begins i (recs_of l) p.offset (kind_from p.class p.group p.subclass)
begins {p = p} f (here {r = x} e c g s) =
    let q : kind_from (head_of x).class (head_of x).group (head_of x).subclass ≡ kind_from p.class p.group p.subclass = rw (c, g, s) in
    P.here e (kind_of (rec_of x) 0 (head_of x) (made x (f x (top refl))).head ∙ q)
begins f (there {r = x} m) = P.there (rw (sym (made x (f x (top refl))).long) at (begins (λ y n. f y (pop n)) m))

aim : (p : Pointer) (i : ℕ) (l : List Rec) → RightPointer p → AllRight l → Meant i l p → Aim (rec_of (pointer p)) i (recs_of l)
unfolding rec_of pointer_at
aim p i l r f m =
    let e = pointer_back p r in
    let c : target_class (put_pointer (room 27) p) 0 ≡ p.class = ap (λ (x : Pointer). x.class) e in
    let g : get_or (put_pointer (room 27) p) 21 0 ≡ p.group = ap (λ (x : Pointer). x.group) e in
    let s : get_or (put_pointer (room 27) p) 22 0 ≡ p.subclass = ap (λ (x : Pointer). x.subclass) e in
    let o : offset (put_pointer (room 27) p) 0 ≡ p.offset = ap (λ (x : Pointer). x.offset) e in
    let k : target_kind (put_pointer (room 27) p) 0 ≡ kind_from p.class p.group p.subclass = be_three (put_pointer (room 27) p) 20 ∙ rw (c, g, s) in
    record { four = omega (arith, r.four); eight = omega (arith, r.eight); begins = rw (o, k) (begins f m) }

pointed : (i : ℕ) (l : List Rec) → AllRight l → Aimed i l → Pointed i (recs_of l)
pointed i [] f a = tt
pointed i (x ∷ l) f (a, b) =
    let m = made x (f x (top refl)) in
    rw m.long (λ c. go x (f x (top refl)) a (sym (class_of (rec_of x) 0 (head_of x) m.head) ∙ c), pointed (i + (head_of x).size) l (λ y n. f y (pop n)) b)
  where
    go : (x : Rec) → RightRec x → Aims x (i + (head_of x).size) l → (head_of x).class ≡ 3 → Aim (rec_of x) (i + (head_of x).size) (recs_of l)
    go (plain h d) r a c = absurd (r.other c)
    go (pointer p) r a c = aim p (i + p.header.size) l r (λ y n. f y (pop n)) a

pub recs_bytes : (l : List Rec) → AllRight l → P.bytes (recs_of l) ≡ bytes l
recs_bytes [] f = refl
recs_bytes (x ∷ l) f = rw ((made x (f x (top refl))).long, recs_bytes l (λ y n. f y (pop n)))

pub recs_count : (c : ℕ) (l : List Rec) → AllRight l → P.count c (recs_of l) ≡ count c l
recs_count c [] f = refl
recs_count c (x ∷ l) f = rw (class_of (rec_of x) 0 (head_of x) (made x (f x (top refl))).head, recs_count c l (λ y n. f y (pop n)))

tiles : (v : Values) → Right v → Tiles (recs_of v.records)
tiles v r = record { own = owns v.records r.records; order = follows 1 v.records r.records r.order; pointed = pointed 3307 v.records r.records r.pointers }

-- ---- each record is counted once
pub counts_all : (l : List Rec) → ((x : Rec) → In x l → (2 ≤ (head_of x).class) × ((head_of x).class ≤ 8)) → count 2 l + count 3 l + count 4 l + count 5 l + count 6 l + count 7 l + count 8 l ≡ length l
counts_all [] h = refl
counts_all (x ∷ l) h = let k = h x (top refl) in omega (arith, one_class (head_of x).class k.0 k.1, counts_all l (λ y n. h y (pop n)))

count_none : (l : List Rec) → ((x : Rec) → In x l → (2 ≤ (head_of x).class) × ((head_of x).class ≤ 8)) → count 1 l ≡ 0
count_none [] h = refl
count_none (x ∷ l) h = let k = h x (top refl) in rw (ne_eqb (head_of x).class 1 (λ e. omega arith), count_none l (λ y n. h y (pop n)))

-- ---- what a number that reads back is
pub line_number : (a : List ℕ) (i w n : ℕ) → number_read_at true w a i ≡ answer (Some (pos n)) → number_of a i w ≡ n
line_number a i w n e = go (is_x a i w) refl (reads_answer a i w (is_numeric true a i w) (number_at a i w) (Some (pos n)) e).2
  where
    go : (b : Bool) → is_x a i w ≡ b → cond b None (Some (integer_of a i w)) ≡ Some (pos n) → number_of a i w ≡ n
    go true x f = let z : ◌≡◌ {A = ℕ} 0 1 = cc in absurd (omega arith)
    go false x f =
        let g : integer_of a i w ≡ pos n = cc in
        sym (nat_abs_is (eqb (get_or a (i + _) 0) 45) (number_of a i w)) ∙ ap nat_abs g

-- ---- THE MAIN HEADER
first_three : (a : List ℕ) (h : Header) → header_at a 0 ≡ h → (h.class ≡ 1) × (h.group ≡ 0) × (h.subclass ≡ 0) × (h.size ≡ 3307) → headed a ≡ true
unfolding headed
first_three a h e m = rw (class_of a 0 h e ∙ m.0, group_of a 0 h e ∙ m.1, subclass_of a 0 h e ∙ m.2, size_of a 0 h e ∙ m.3)

module _ (v : Values) (r : Right v) where
  fit : (j : ℕ) → j < length v.lines → fits j (get_or v.lines j (text [])) ≡ true
  fit j h = r.lines j (omega (arith, r.long))

  pub main_long : length (main_of v) ≡ 3307
  unfolding main_of
  main_long =
      let e = all_long v.lines (text []) fit in
      let n = r.long in
      length-append (put_header (room 20) v.header) (lines_from 0 v.lines) ∙ omega (arith, header_long v.header, rw n at e, start_72, first_line)

  pub main_head : header_at (main_of v) 0 ≡ v.header
  unfolding main_of
  main_head =
      let p = put_header (room 20) v.header in
      header_at_lem (at_left p (lines_from 0 v.lines) (at_self (p ++ lines_from 0 v.lines))) (omega (arith, header_long v.header)) ∙ header_back v.header r.header

  main_lines : At (main_of v) (line_start 0) (lines_from 0 v.lines)
  unfolding main_of
  main_lines =
      let p = put_header (room 20) v.header in
      let e : length p ≡ line_start 0 = omega (arith, header_long v.header, first_line) in
      rw e at (at_end p (lines_from 0 v.lines))

  pub main_line : (k : ℕ) → k < 72 → At (main_of v) (line_start k) (line_of k (line_in v k))
  main_line k h = all_stand v.lines (text []) fit (main_of v) main_lines k (omega (arith, r.long))

  pub main_stands : (k : ℕ) → k < 72 → Stands (main_of v) k (put_line k (put k (line_in v k)) (room (width_of k + 33)))
  main_stands k h = stands_of (main_of v) k (line_in v k) (r.lines k h) (main_line k h)

  number_of_lem : (k n : ℕ) → k < 72 → line_in v k ≡ whole n → number_of (main_of v) (line_start k + 32) (width_of k) ≡ n
  number_of_lem k n h e =
      let f : fits k (whole n) ≡ true = ap (fits k) (sym e) ∙ r.lines k h in
      let s = rw e at (main_stands k h) in
      let u : line_start k + 32 + width_of k ≤ length (main_of v) = omega (arith, main_long, start_next k, start_mono {j = suc k} {k = 72} h, start_72) in
      line_number (main_of v) (line_start k + 32) (width_of k) n
      (number_line_back k (Some (pos n)) (room (width_of k + 33)) (number_on_lem k (Some (pos n)) h f) (line_room k) (main_of v) s u)

  pub main_declared : declared (main_of v) ≡ 3307 + bytes v.records
  unfolding declared
  main_declared = number_of_lem 28 (3307 + bytes v.records) (omega arith) r.size

  main_all : total (main_of v) 0 ≡ suc (length v.records)
  unfolding total
  main_all = number_of_lem 55 (suc (length v.records)) (omega arith) r.all

  main_mphr : total (main_of v) 1 ≡ 1
  unfolding total
  main_mphr = number_of_lem 56 1 (omega arith) r.mphr

  main_total : (c : ℕ) → 2 ≤ c → c ≤ 8 → total (main_of v) c ≡ count c v.records
  unfolding total
  main_total c h l = number_of_lem (55 + c) (count c v.records) (omega arith) (r.totals c h l)

  classes : (x : Rec) → In x v.records → (2 ≤ (head_of x).class) × ((head_of x).class ≤ 8)
  classes x h = go v.records r.records h (follows_classes 1 (recs_of v.records) (follows 1 v.records r.records r.order))
    where
      go : (l : List Rec) → AllRight l → In x l → ((s : List ℕ) → In s (recs_of l) → (2 ≤ class s 0) × (class s 0 ≤ 8)) → (2 ≤ (head_of x).class) × ((head_of x).class ≤ 8)
      go [] f h q = absurd (nil h)
      go (y ∷ l) f (top e) q = let c = class_of (rec_of y) 0 (head_of y) (made y (f y (top refl))).head in rw e (rw c at (q (rec_of y) (top refl)))
      go (y ∷ l) f (pop h) q = go l (λ z n. f z (pop n)) h (λ s n. q s (pop n))

  main_sums : Sums (main_of v)
  unfolding sum
  main_sums =
      let t2 = main_total 2 (omega arith) (omega arith) in
      let t3 = main_total 3 (omega arith) (omega arith) in
      let t4 = main_total 4 (omega arith) (omega arith) in
      let t5 = main_total 5 (omega arith) (omega arith) in
      let t6 = main_total 6 (omega arith) (omega arith) in
      let t7 = main_total 7 (omega arith) (omega arith) in
      let t8 = main_total 8 (omega arith) (omega arith) in
      record {
        main = main_mphr;
        second = omega (arith, t2, recs_count 2 v.records r.records, one_sphr 1 (recs_of v.records) (follows 1 v.records r.records r.order));
        all = omega (arith, main_all, main_mphr, t2, t3, t4, t5, t6, t7, t8, counts_all v.records classes);
      }

  pub main_header : MainHeader (main_of v)
  main_header = record {
    header = first_three (main_of v) v.header main_head r.main;
    times = timed_of (main_of v) 0 v.header main_head r.header;
    lines = λ k h.
        let p = line_put k (line_in v k) h (r.lines k h) in (
          line_framed k (put k (line_in v k)) (room (width_of k + 33)) p (main_of v) (main_stands k h),
          line_valued k (put k (line_in v k)) (room (width_of k + 33)) p (main_of v) (main_stands k h),
        );
    least = omega (arith, main_declared);
    most = omega (arith, main_declared, r.most);
    sums = main_sums;
  }

  main_totals : (c : ℕ) → 1 ≤ c → c ≤ 8 → Dec (c ≡ 1) → P.count c (main_of v ∷ recs_of v.records) ≡ total (main_of v) c
  main_totals c h l (yes e) =
      let f : class (main_of v) 0 ≡ 1 = class_of (main_of v) 0 v.header main_head ∙ r.main.0 in
      let z : count 1 v.records ≡ 0 = count_none v.records classes in
      subst (λ (x : ℕ). P.count x (main_of v ∷ recs_of v.records) ≡ total (main_of v) x) (sym e) (rw (f, recs_count 1 v.records r.records, z) (sym main_mphr))
  main_totals c h l (no d) =
      let f : class (main_of v) 0 ≡ 1 = class_of (main_of v) 0 v.header main_head ∙ r.main.0 in
      let z : eqb 1 c ≡ false = ne_eqb 1 c (λ e. d (sym e)) in
      rw (f, z, recs_count c v.records r.records) (omega (arith, main_total c (omega (arith, d)) l))

  pub print_built : Built (main_of v) (recs_of v.records)
  print_built = record {
    fits = record {
      long = main_long;
      header = main_header;
      come = main_declared ∙ ap (λ (n : ℕ). 3307 + n) (sym (recs_bytes v.records r.records));
      totals = λ c h l. main_totals c h l (ℕ_discrete c 1);
    };
    tiles = tiles v r;
  }

  pub print_is : P.bytes_of (main_of v) (recs_of v.records) ≡ print v
  print_is = ap (λ (s : List ℕ). main_of v ++ s) (recs_joined v.records)

  -- THE LAW
  pub print_meets : Meets (print v)
  print_meets = rw print_is at (built_meets (main_of v) (recs_of v.records) print_built)
