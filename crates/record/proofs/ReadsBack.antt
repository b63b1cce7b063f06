-- READING BACK: a header or a pointer record that is written reads back as it was, one that was read is written back as the bytes that it was
-- read from, and the other bytes of the room are kept. By the row of its fields (FieldLaws). Assumes nothing.
use mathlib.Core.Path.{◌≡◌, refl, sym, ap, ◌∙◌}
use mathlib.Core.Bool.{true}
use mathlib.Core.List.{List, [], ◌∷◌, ◌++◌}
use Prim.Native.Nat.{ℕ, ◌+◌, ◌%◌, ◌^◌, ◌≤◌, ◌<◌}
use native.Mathlib.Nat.{mod-eq_of_lt}
use native.Mathlib.Omega.{arith}
use borrow.Author.Tests.{le-leb, leb-true}
use lib.ListN.{length, get_or}
use mir.Val.{Val}
use denote.Laws.{Is}
use Rattle.calendar.specs.Said.{answer}
use Rattle.meter.specs.Lent.{inside}
use Rattle.meter.specs.Integer.{Bytes, be_at, stored}
use Rattle.meter.specs.Time.{is_time, InDays, bits_of, time_of, time_at, time_read_at}
use Rattle.std.specs.declared.option.Option.{Option}
use Rattle.std.specs.declared.result.Result.{Result}
use Rattle.calendar.specs.declared.Refusal.{Refusal}
use Rattle.meter.specs.declared.time.Time.{Time}
use Rattle.meter.proofs.IntegerLaws.{back, be_at_lt, be_at_same}
use Rattle.meter.proofs.TimeLaws.{in_days, bits_back}
use Rattle.meter.proofs.ReadsBack.{reads_answer, time_again}
use Rattle.meter.proofs.WriterLaws.{beyond, done}
use Rattle.record.specs.Header.{is_header, header_at, header_read_at, put_header, WritesHeader, HeaderBack}
use Rattle.record.specs.Pointer.{is_pointer, pointer_at, pointer_read_at, put_pointer, WritesPointer, PointerBack}
use Rattle.record.specs.declared.header.Header.{Header}
use Rattle.record.specs.declared.pointer.Pointer.{Pointer}
use Rattle.record.proofs.FieldLaws.{part_inside, byte_is, Field, field, put, Held, put_length, put_after, put_held, held_again, held_left}
use Rattle.record.proofs.HeaderLaws.{header_parts}
use Rattle.record.proofs.PointerLaws.{pointer_header}
use Rattle.record.specs.contracts.header.Header as HeaderType
use Rattle.record.specs.contracts.pointer.Pointer as PointerType

-- ---- the fields of a header, one after another
abbrev pub fields_of : Header → List Field
fields_of h =
    field 1 h.class ∷ field 1 h.group ∷ field 1 h.subclass ∷ field 1 h.version ∷ field 4 h.size ∷ field 6 (bits_of h.start) ∷ field 6 (bits_of h.stop) ∷ []

pub header_fields : (a : List ℕ) (h : Header) → put_header a h ≡ put a 0 (fields_of h)
unfolding put_header
header_fields a h = refl

-- the ranges that the types of the fields give, which each value of the machine's type has
pub record Ranges (h : Header) : Type 0 where
  pub class : h.class < 256
  pub group : h.group < 256
  pub subclass : h.subclass < 256
  pub version : h.version < 256
  pub size : h.size < 0x1_0000_0000
  pub start : InDays h.start
  pub stop : InDays h.stop

pub header_ranges : (h : Header) (vs : List Val) → Is HeaderType.the_row h vs → Ranges h
header_ranges h vs g =
    let f = g.1.1 in
    let t = f.1.1.1.1.1 in
    record { class = f.0.1; group = f.1.0.1; subclass = f.1.1.0.1; version = f.1.1.1.0.1; size = f.1.1.1.1.0.1; start = in_days h.start _ t.0; stop = in_days h.stop _ t.1.0 }

-- ---- what is held, read
byte_held : (t : List ℕ) (i v : ℕ) → v < 256 → v % 256 ^ 1 ≡ be_at t i 1 → get_or t i 0 ≡ v
byte_held t i v h e = sym (byte_is t i) ∙ sym e ∙ mod-eq_of_lt h

time_held : (t : List ℕ) (i : ℕ) (u : Option Time) → InDays u → is_time u ≡ true → bits_of u % 256 ^ 6 ≡ be_at t i 6 → time_at t i ≡ u
time_held t i u d r e = let b = bits_back u d r in ap time_of (sym e ∙ mod-eq_of_lt b.0) ∙ b.1

pub header_held : (t : List ℕ) (h : Header) → is_header h ≡ true → Ranges h → Held t 0 0 (fields_of h) → header_at t 0 ≡ h
unfolding header_at
header_held t h r y e =
    let p = header_parts h r in
    let c = byte_held t 0 h.class y.class e.0 in
    let g = byte_held t 1 h.group y.group e.1.0 in
    let s = byte_held t 2 h.subclass y.subclass e.1.1.0 in
    let v = byte_held t 3 h.version y.version e.1.1.1.0 in
    let z : be_at t 4 4 ≡ h.size = sym e.1.1.1.1.0 ∙ mod-eq_of_lt y.size in
    let u = time_held t 8 h.start y.start p.1 e.1.1.1.1.1.0 in
    let w = time_held t 14 h.stop y.stop p.2 e.1.1.1.1.1.1.0 in
    rw (c, g, s, v, z, u, w)

-- ---- what is read, held
read_byte : (t : List ℕ) (i : ℕ) → Bytes t → get_or t i 0 % 256 ^ 1 ≡ be_at t i 1
read_byte t i b = mod-eq_of_lt (b i) ∙ sym (byte_is t i)

read_word : (t : List ℕ) (i : ℕ) → Bytes t → be_at t i 4 % 256 ^ 4 ≡ be_at t i 4
read_word t i b = mod-eq_of_lt (be_at_lt t b i 4)

read_time : (room t : List ℕ) (i : ℕ) → Bytes t → 6 ≤ length room → inside t i 6 ≡ true → is_time (time_at t i) ≡ true → bits_of (time_at t i) % 256 ^ 6 ≡ be_at t i 6
read_time room t i b h n r =
    let u = time_at t i in
    let e : time_read_at t i ≡ answer u = rw (n, r) in
    sym (back room 0 6 (bits_of u) h) ∙ be_at_same (stored room 0 6 (bits_of u)) t 0 i 6 (λ k l. let z : 0 + k ≡ k = omega arith in rw z (time_again room t i u b h e k l))

read_header : (room b : List ℕ) (at : ℕ) → Bytes b → 6 ≤ length room → inside b at 20 ≡ true → is_header (header_at b at) ≡ true → Held b at 0 (fields_of (header_at b at))
unfolding header_at
read_header room b at bytes h i r =
    let p = header_parts (header_at b at) r in
    let z : at + 0 ≡ at = omega arith in
    let start = read_time room b (at + 8) bytes h (part_inside b at 20 8 6 i (omega arith)) p.1 in
    let stop = read_time room b (at + 14) bytes h (part_inside b at 20 14 6 i (omega arith)) p.2 in
    (rw z (read_byte b at bytes), (read_byte b (at + 1) bytes, (read_byte b (at + 2) bytes, (read_byte b (at + 3) bytes, (read_word b (at + 4) bytes, (start, (stop, tt)))))))

-- ---- HEADERS
header_back : (a : List ℕ) (h : Header) → is_header h ≡ true → Ranges h → 20 ≤ length a → header_read_at (put_header a h) 0 ≡ answer h
header_back a h r y l =
    let f = header_fields a h in
    let b = put a 0 (fields_of h) in
    let e : header_at b 0 ≡ h = header_held b h r y (put_held a 0 (fields_of h) l) in
    let i : inside b 0 20 ≡ true = le-leb 20 (length b) (omega (arith, put_length a 0 (fields_of h))) in
    rw (f, i, e, r)

pub header_again : (room b : List ℕ) (at : ℕ) (h : Header) → Bytes b → 20 ≤ length room → header_read_at b at ≡ answer h → (k : ℕ) → k < 20 → get_or (put_header room h) k 0 ≡ get_or b (at + k) 0
header_again room b at h bytes l e k m =
    let r = reads_answer b at 20 (is_header (header_at b at)) (header_at b at) h e in
    let held = read_header room b at bytes (omega arith) r.0 r.1 in
    let x : 0 + k ≡ k = omega arith in
    let y : at + 0 + k ≡ at + k = omega arith in
    let g = rw (x, y) at (held_again room b at 0 (fields_of (header_at b at)) bytes l held k m) in
    rw (← r.2, header_fields room (header_at b at)) g

pub header_length : (room : List ℕ) (h : Header) → length (put_header room h) ≡ length room
header_length room h = ap length (header_fields room h) ∙ put_length room 0 (fields_of h)

pub header_kept : (room : List ℕ) (h : Header) (j : ℕ) → 20 ≤ j → get_or (put_header room h) j 0 ≡ get_or room j 0
header_kept room h j l = ap (λ (s : List ℕ). get_or s j 0) (header_fields room h) ∙ put_after room 0 (fields_of h) j l

-- ---- POINTER RECORDS
abbrev pub target_of : Pointer → List Field
target_of p = field 1 p.class ∷ field 1 p.group ∷ field 1 p.subclass ∷ field 4 p.offset ∷ []

abbrev pub pointer_fields : Pointer → List Field
pointer_fields p = fields_of p.header ++ target_of p

pub pointer_fields_lem : (a : List ℕ) (p : Pointer) → put_pointer a p ≡ put a 0 (pointer_fields p)
unfolding put_pointer put_header
pointer_fields_lem a p = refl

pub record PointerRanges (p : Pointer) : Type 0 where
  pub header : Ranges p.header
  pub class : p.class < 256
  pub group : p.group < 256
  pub subclass : p.subclass < 256
  pub offset : p.offset < 0x1_0000_0000

pub pointer_ranges : (p : Pointer) (vs : List Val) → Is PointerType.the_row p vs → PointerRanges p
pointer_ranges p vs g =
    let f = g.1.1 in
    record { header = header_ranges p.header _ f.0; class = omega (arith, f.1); group = omega (arith, f.1); subclass = omega (arith, f.1); offset = omega (arith, f.1) }

pub pointer_held : (t : List ℕ) (p : Pointer) → is_pointer p ≡ true → PointerRanges p → Held t 0 0 (pointer_fields p) → pointer_at t 0 ≡ p
unfolding pointer_at
pointer_held t p r y e =
    let x = e.1.1.1.1.1.1.1 in
    let h = header_held t p.header (pointer_header p r) y.header (held_left t 0 0 (fields_of p.header) (target_of p) e) in
    let c = byte_held t 20 p.class y.class x.0 in
    let g = byte_held t 21 p.group y.group x.1.0 in
    let s = byte_held t 22 p.subclass y.subclass x.1.1.0 in
    let z : be_at t 23 4 ≡ p.offset = sym x.1.1.1.0 ∙ mod-eq_of_lt y.offset in
    rw (h, c, g, s, z)

read_pointer : (room b : List ℕ) (at : ℕ) → Bytes b → 6 ≤ length room → inside b at 27 ≡ true → is_pointer (pointer_at b at) ≡ true → Held b at 0 (pointer_fields (pointer_at b at))
unfolding pointer_at
read_pointer room b at bytes h i r =
    let n : inside b at 20 ≡ true = le-leb (at + 20) (length b) (omega (arith, leb-true (at + 27) (length b) i)) in
    let e = read_header room b at bytes h n (pointer_header (pointer_at b at) r) in
    let x = e.1.1.1.1 in (
      e.0,
      (e.1.0, (e.1.1.0, (e.1.1.1.0, (x.0, (x.1.0, (x.1.1.0, (read_byte b (at + 20) bytes, (read_byte b (at + 21) bytes, (read_byte b (at + 22) bytes, (read_word b (at + 23) bytes, tt)))))))))),
    )

pointer_back : (a : List ℕ) (p : Pointer) → is_pointer p ≡ true → PointerRanges p → 27 ≤ length a → pointer_read_at (put_pointer a p) 0 ≡ answer p
pointer_back a p r y l =
    let f = pointer_fields_lem a p in
    let b = put a 0 (pointer_fields p) in
    let e : pointer_at b 0 ≡ p = pointer_held b p r y (put_held a 0 (pointer_fields p) l) in
    let i : inside b 0 27 ≡ true = le-leb 27 (length b) (omega (arith, put_length a 0 (pointer_fields p))) in
    rw (f, i, e, r)

pub pointer_again : (room b : List ℕ) (at : ℕ) (p : Pointer) → Bytes b → 27 ≤ length room → pointer_read_at b at ≡ answer p → (k : ℕ) → k < 27 → get_or (put_pointer room p) k 0 ≡ get_or b (at + k) 0
pointer_again room b at p bytes l e k m =
    let r = reads_answer b at 27 (is_pointer (pointer_at b at)) (pointer_at b at) p e in
    let held = read_pointer room b at bytes (omega arith) r.0 r.1 in
    let x : 0 + k ≡ k = omega arith in
    let y : at + 0 + k ≡ at + k = omega arith in
    let g = rw (x, y) at (held_again room b at 0 (pointer_fields (pointer_at b at)) bytes l held k m) in
    rw (← r.2, pointer_fields_lem room (pointer_at b at)) g

pub pointer_length : (room : List ℕ) (p : Pointer) → length (put_pointer room p) ≡ length room
pointer_length room p = ap length (pointer_fields_lem room p) ∙ put_length room 0 (pointer_fields p)

pub pointer_kept : (room : List ℕ) (p : Pointer) (j : ℕ) → 27 ≤ j → get_or (put_pointer room p) j 0 ≡ get_or room j 0
pointer_kept room p j l = ap (λ (s : List ℕ). get_or s j 0) (pointer_fields_lem room p) ∙ put_after room 0 (pointer_fields p) j l

-- ---- THE WRITERS, by their promises: what lies beyond is kept, whatever is answered
module _ (room exit : List ℕ) (r : Result ℕ Refusal) (j : ℕ) where
  pub write_header_keeps : (h : Header) → WritesHeader room h r exit → 20 ≤ j → get_or exit j 0 ≡ get_or room j 0
  write_header_keeps h w l = beyond room 20 (is_header h) (put_header room h) exit j w.1 (λ _ _. header_kept room h j l)

  pub write_pointer_keeps : (p : Pointer) → WritesPointer room p r exit → 27 ≤ j → get_or exit j 0 ≡ get_or room j 0
  write_pointer_keeps p w l = beyond room 27 (is_pointer p) (put_pointer room p) exit j w.1 (λ _ _. pointer_kept room p j l)

-- and where bytes are answered, what was written reads back, of values in the ranges of their types
module _ (room exit : List ℕ) (r : Result ℕ Refusal) where
  pub header_written_back : (h : Header) → Ranges h → WritesHeader room h r exit → HeaderBack h r exit
  header_written_back h y w e =
      let d = done room 20 (is_header h) (put_header room h) exit 21 20 (sym e ∙ w.0) w.1 in
      rw d.left (header_back room h d.fits y d.room_is)

  pub pointer_written_back : (p : Pointer) → PointerRanges p → WritesPointer room p r exit → PointerBack p r exit
  pointer_written_back p y w e =
      let d = done room 27 (is_pointer p) (put_pointer room p) exit 21 27 (sym e ∙ w.0) w.1 in
      rw d.left (pointer_back room p d.fits y d.room_is)
