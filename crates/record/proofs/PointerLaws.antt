-- What the code of pointer records tests: the header that is read or refused, its class and its size, and the steps of the writer.
-- By the cases of each test. Assumes nothing.
use mathlib.Core.Path.{◌≡◌, sym, ap, ◌∙◌}
use mathlib.Core.Bool.{Bool, true, false, ◌&&◌, and-false}
use mathlib.Core.List.{List}
use Prim.Native.Nat.{ℕ, ◌+◌, ◌<◌}
use native.Mathlib.Omega.{arith}
use borrow.Author.Tests.{le-leb, leb-true, eq-eqb, ne_eqb}
use lib.Dec.{eqb}
use lib.ListN.{length, get_or, set}
use Rattle.calendar.specs.Said.{Said, answer, refusal, refused}
use Rattle.calendar.specs.declared.Refusal.{Refusal}
use Rattle.meter.specs.Lent.{inside}
use Rattle.meter.specs.Integer.{be_at, stored}
use Rattle.meter.proofs.ReadsBack.{reads_answer}
use Rattle.record.specs.Header.{is_header, header_at, header_read_at, put_header}
use Rattle.record.specs.Pointer.{is_pointer, pointer_at, pointer_read_at, put_pointer}
use Rattle.record.specs.declared.header.Header.{Header}
use Rattle.record.specs.declared.pointer.Pointer.{Pointer}
use Rattle.record.proofs.FieldLaws.{both, stored_one}
use Rattle.record.proofs.HeaderLaws.{refused_21, reads_refusal}

-- a header of a pointer record
abbrev pub is_pointing : Header → Bool
is_pointing h = is_header h && (eqb h.class 3 && eqb h.size 27)

pub not_class : (h : Header) → (h.class ≡ 3 → ⊥) → is_pointing h ≡ false
not_class h d = rw (ne_eqb h.class 3 d) (and-false (is_header h))

pub not_size : (h : Header) → (h.size ≡ 27 → ⊥) → is_pointing h ≡ false
not_size h d =
    ap (λ (b : Bool). is_header h && (eqb h.class 3 && b)) (ne_eqb h.size 27 d) ∙ ap (λ (b : Bool). is_header h && b) (and-false (eqb h.class 3)) ∙ and-false (is_header h)

pub pointer_header : (p : Pointer) → is_pointer p ≡ true → is_header p.header ≡ true
unfolding is_pointer
pointer_header p e = (both (is_header p.header) (eqb p.header.class 3 && eqb p.header.size 27) e).0

-- ---- reading
module _ (a : List ℕ) (at : ℕ) (i : inside a at 27 ≡ true) where
  bad : is_pointing (header_at a at) ≡ false → refusal 21 0 ≡ pointer_read_at a at
  unfolding is_pointer pointer_at
  bad e = rw (i, e)

  header_inside : inside a at 20 ≡ true
  header_inside = le-leb (at + 20) (length a) (omega (arith, leb-true (at + 27) (length a) i))

  pub header_bad : (r : Refusal) → refused r ≡ header_read_at a at → refused r ≡ pointer_read_at a at
  header_bad r e =
      let g : ◌≡◌ {A = Said Pointer} (refused r) (refusal 21 0) = refused_21 a at 20 (is_header (header_at a at)) (header_at a at) r header_inside e in
      let f = reads_refusal a at 20 (is_header (header_at a at)) (header_at a at) r.number r.place header_inside (sym e) in
      g ∙ bad (ap (λ (b : Bool). b && (eqb (header_at a at).class 3 && eqb (header_at a at).size 27)) f)

  module _ (h : Header) (e : answer h ≡ header_read_at a at) where
    header_is : (is_header (header_at a at) ≡ true) × (header_at a at ≡ h)
    header_is = let r = reads_answer a at 20 (is_header (header_at a at)) (header_at a at) h (sym e) in (r.1, r.2)

    pub pointing_bad : is_pointing h ≡ false → refusal 21 0 ≡ pointer_read_at a at
    pointing_bad f = bad (ap is_pointing header_is.1 ∙ f)

    pub pointer_good : (z : ℕ) → h.class ≡ 3 → h.size ≡ 27 → z ≡ be_at a (at + 23) 4 → answer record { header = h; class = get_or a (at + 20) 0; group = get_or a (at + 21) 0; subclass = get_or a (at + 22) 0; offset = z } ≡ pointer_read_at a at
    unfolding is_pointer pointer_at
    pointer_good z c s f =
        let p : is_pointing (header_at a at) ≡ true = ap is_pointing header_is.1 ∙ rw (ap is_header (sym header_is.1) ∙ header_is.0, eq-eqb h.class 3 c, eq-eqb h.size 27 s) in
        rw (i, p, f, header_is.1)

-- ---- the steps of the writer
pub put_steps : (r l m : List ℕ) (p : Pointer) → p.class < 256 → p.group < 256 → p.subclass < 256 → l ≡ put_header r p.header → m ≡ stored (set (set (set l 20 p.class) 21 p.group) 22 p.subclass) 23 4 p.offset → m ≡ put_pointer r p
unfolding put_pointer
put_steps r l m p bc bg bs e f =
    let r1 = stored_one (put_header r p.header) 20 p.class bc in
    let r2 = stored_one (set (put_header r p.header) 20 p.class) 21 p.group bg in
    let r3 = stored_one (set (set (put_header r p.header) 20 p.class) 21 p.group) 22 p.subclass bs in
    rw (f, e, r1, r2, r3)
