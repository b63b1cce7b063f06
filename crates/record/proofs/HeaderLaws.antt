-- What the code of headers tests: a reader that answers or refuses, the parts of a header, the room after the steps of its writer.
-- By the cases of each test. Assumes nothing.
use mathlib.Core.Path.{◌≡◌, refl, sym, ap, ◌∙◌}
use mathlib.Core.Bool.{Bool, true, false, cond, ◌&&◌, and-false}
use mathlib.Core.List.{List}
use Prim.Native.Nat.{ℕ, ◌+◌, ◌≤◌, ◌<◌}
use native.Mathlib.Omega.{arith}
use borrow.Author.Tests.{le-leb}
use lib.ListN.{length, get_or, set}
use Rattle.calendar.specs.Said.{Said, answer, refusal, refused}
use Rattle.calendar.specs.declared.Refusal.{Refusal}
use Rattle.meter.specs.Lent.{inside, reads, writes}
use Rattle.meter.specs.Integer.{be_at, stored, is_width, unsigned_at}
use Rattle.meter.specs.Time.{is_time, bits_of, time_at, time_read_at}
use Rattle.std.specs.declared.option.Option.{Option}
use Rattle.meter.specs.declared.time.Time.{Time}
use Rattle.meter.proofs.ReadsBack.{reads_answer}
use Rattle.record.specs.Header.{size_there, is_lead, is_header, header_at, header_read_at, put_header}
use Rattle.record.specs.declared.header.Header.{Header}
use Rattle.record.proofs.FieldLaws.{both, part_inside, stored_one, width_four}

-- a reader that refuses where the part is there: what it reads is not right
pub reads_refusal : {A : Type 0} (a : List ℕ) (at n : ℕ) (right : Bool) (v : A) (x y : ℕ) → inside a at n ≡ true → reads a at n right v ≡ refusal x y → right ≡ false
reads_refusal a at n right v x y i e = go right refl (rw i at e)
  where
    go : (c : Bool) → right ≡ c → cond c (answer v) (refusal 21 0) ≡ refusal x y → right ≡ false
    go true r e = let z : ◌≡◌ {A = ℕ} 0 1 = cc in absurd (omega arith)
    go false r e = r

-- and its refusal is 21 at 0, which is handed on
pub refused_21 : {A B : Type 0} (a : List ℕ) (at n : ℕ) (right : Bool) (v : A) (r : Refusal) → inside a at n ≡ true → ◌≡◌ {A = Said A} (refused r) (reads a at n right v) → ◌≡◌ {A = Said B} (refused r) (refusal 21 0)
refused_21 {A} {B} a at n right v r i e = go right (rw i at e)
  where
    go : (c : Bool) → ◌≡◌ {A = Said A} (refused r) (cond c (answer v) (refusal 21 0)) → ◌≡◌ {A = Said B} (refused r) (refusal 21 0)
    go true f = let z : ◌≡◌ {A = ℕ} 0 1 = cc in absurd (omega arith)
    go false f = let p : r.number ≡ 21 = cc in let q : r.place ≡ 0 = cc in ap (λ (k : ℕ). refusal k r.place) p ∙ ap (refusal 21) q

-- a writer that answers, and one that refuses where there is room
pub writes_answer : (room : List ℕ) (n : ℕ) (right : Bool) (x : ℕ) → answer x ≡ writes room n right → true ≡ right
writes_answer room n true x e = refl
writes_answer room n false x e = let z : ◌≡◌ {A = ℕ} 0 1 = cc in absurd (omega arith)

pub writes_refusal : (room : List ℕ) (n : ℕ) (right : Bool) (x y : ℕ) → n ≤ length room → refusal x y ≡ writes room n right → false ≡ right
writes_refusal room n true x y h e =
    let l = le-leb n (length room) h in
    let f : refusal x y ≡ answer n = rw l at e in
    let z : ◌≡◌ {A = ℕ} 0 1 = cc in
    absurd (omega arith)
writes_refusal room n false x y h e = refl

-- ---- the number of four bytes that are there
module _ (a : List ℕ) (at : ℕ) (h : at + 4 ≤ length a) where
  pub word_value : (v : ℕ) → answer v ≡ unsigned_at a at 4 → v ≡ be_at a at 4
  word_value v e = sym (reads_answer a at 4 (is_width 4) (be_at a at 4) v (sym e)).2

  pub word_never : (r : Refusal) → refused r ≡ unsigned_at a at 4 → ⊥
  word_never r e =
      let f = reads_refusal a at 4 (is_width 4) (be_at a at 4) r.number r.place (le-leb (at + 4) (length a) h) (sym e) in
      let t : true ≡ false = sym width_four ∙ f in
      let z : ◌≡◌ {A = ℕ} 0 1 = cc in
      omega arith

-- the size of a record, where its header has come
pub size_there_lem : (a : List ℕ) (at : ℕ) → at + 8 ≤ length a → size_there a at ≡ be_at a (at + 4) 4
size_there_lem a at h = rw (le-leb (at + 8) (length a) h) refl

-- ---- the parts of a header
pub header_parts : (h : Header) → is_header h ≡ true → (is_lead h.class h.group h.size ≡ true) × (is_time h.start ≡ true) × (is_time h.stop ≡ true)
unfolding is_header
header_parts h e =
    let p = both (is_lead h.class h.group h.size) (is_time h.start && is_time h.stop) e in
    let q = both (is_time h.start) (is_time h.stop) p.1 in
    (p.0, q.0, q.1)

-- one of them is not right
pub not_lead : (h : Header) → is_lead h.class h.group h.size ≡ false → is_header h ≡ false
unfolding is_header
not_lead h e = rw e

pub not_start : (h : Header) → is_time h.start ≡ false → is_header h ≡ false
unfolding is_header
not_start h e = rw e (and-false (is_lead h.class h.group h.size))

pub not_stop : (h : Header) → is_time h.stop ≡ false → is_header h ≡ false
unfolding is_header
not_stop h e =
    let l = is_lead h.class h.group h.size in
    ap (λ (b : Bool). l && (is_time h.start && b)) e ∙ ap (λ (b : Bool). l && b) (and-false (is_time h.start)) ∙ and-false l

-- all are
pub is_header_lem : (h : Header) → is_lead h.class h.group h.size ≡ true → is_time h.start ≡ true → is_time h.stop ≡ true → is_header h ≡ true
unfolding is_header
is_header_lem h l s t =
    ap (λ (b : Bool). b && (is_time h.start && is_time h.stop)) l ∙ ap (λ (b : Bool). b && is_time h.stop) s ∙ t

-- ---- reading: the part is there, and one of its fields is not right, or all are
module _ (a : List ℕ) (at : ℕ) (i : inside a at 20 ≡ true) where
  not_header : is_header (header_at a at) ≡ false → refusal 21 0 ≡ header_read_at a at
  not_header e = rw (i, e)

  pub start_bad : (r : Refusal) → refused r ≡ time_read_at a (at + 8) → refused r ≡ header_read_at a at
  unfolding header_at
  start_bad r e =
      let g : ◌≡◌ {A = Said Header} (refused r) (refusal 21 0) = refused_21 a (at + 8) 6 (is_time (time_at a (at + 8))) (time_at a (at + 8)) r (part_inside a at 20 8 6 i (omega arith)) e in
      let f : is_time (time_at a (at + 8)) ≡ false = reads_refusal a (at + 8) 6 (is_time (time_at a (at + 8))) (time_at a (at + 8)) r.number r.place (part_inside a at 20 8 6 i (omega arith)) (sym e) in
      g ∙ not_header (not_start (header_at a at) f)

  pub stop_bad : (r : Refusal) → refused r ≡ time_read_at a (at + 14) → refused r ≡ header_read_at a at
  unfolding header_at
  stop_bad r e =
      let g : ◌≡◌ {A = Said Header} (refused r) (refusal 21 0) = refused_21 a (at + 14) 6 (is_time (time_at a (at + 14))) (time_at a (at + 14)) r (part_inside a at 20 14 6 i (omega arith)) e in
      let f : is_time (time_at a (at + 14)) ≡ false = reads_refusal a (at + 14) 6 (is_time (time_at a (at + 14))) (time_at a (at + 14)) r.number r.place (part_inside a at 20 14 6 i (omega arith)) (sym e) in
      g ∙ not_header (not_stop (header_at a at) f)

  module _ (z : ℕ) (e : z ≡ be_at a (at + 4) 4) where
    pub lead_bad : is_lead (get_or a at 0) (get_or a (at + 1) 0) z ≡ false → refusal 21 0 ≡ header_read_at a at
    unfolding header_at
    lead_bad f = not_header (not_lead (header_at a at) (ap (is_lead (get_or a at 0) (get_or a (at + 1) 0)) (sym e) ∙ f))

    pub header_good : (t u : Option Time) → is_lead (get_or a at 0) (get_or a (at + 1) 0) z ≡ true → answer t ≡ time_read_at a (at + 8) → answer u ≡ time_read_at a (at + 14) → answer record { class = get_or a at 0; group = get_or a (at + 1) 0; subclass = get_or a (at + 2) 0; version = get_or a (at + 3) 0; size = z; start = t; stop = u } ≡ header_read_at a at
    unfolding header_at
    header_good t u f p q =
        let x = reads_answer a (at + 8) 6 (is_time (time_at a (at + 8))) (time_at a (at + 8)) t (sym p) in
        let y = reads_answer a (at + 14) 6 (is_time (time_at a (at + 14))) (time_at a (at + 14)) u (sym q) in
        let g : is_lead (get_or a at 0) (get_or a (at + 1) 0) (be_at a (at + 4) 4) ≡ true = ap (is_lead (get_or a at 0) (get_or a (at + 1) 0)) (sym e) ∙ f in
        let h : is_header (header_at a at) ≡ true = is_header_lem (header_at a at) g x.1 y.1 in
        rw (e, ← x.2, ← y.2) (good h)
      where
        good : is_header (header_at a at) ≡ true → answer (header_at a at) ≡ header_read_at a at
        good h = rw (i, h)

-- ---- the steps of the writer
pub put_steps : (r l m n : List ℕ) (h : Header) → h.class < 256 → h.group < 256 → h.subclass < 256 → h.version < 256 → l ≡ stored (set (set (set (set r 0 h.class) 1 h.group) 2 h.subclass) 3 h.version) 4 4 h.size → m ≡ stored l 8 6 (bits_of h.start) → n ≡ stored m 14 6 (bits_of h.stop) → n ≡ put_header r h
unfolding put_header
put_steps r l m n h bc bg bs bv e f g =
    let r1 = stored_one r 0 h.class bc in
    let r2 = stored_one (set r 0 h.class) 1 h.group bg in
    let r3 = stored_one (set (set r 0 h.class) 1 h.group) 2 h.subclass bs in
    let r4 = stored_one (set (set (set r 0 h.class) 1 h.group) 2 h.subclass) 3 h.version bv in
    rw (g, f, e, r1, r2, r3, r4)
