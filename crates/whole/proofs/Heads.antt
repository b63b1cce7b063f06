-- A HEADER AND A POINTER RECORD, by the bytes that their writers write: they read back, wherever they stand. By record's law of
-- what is held (ReadsBack). Assumes nothing.
use mathlib.Core.Path.{◌≡◌, refl, sym, ◌∙◌}
use mathlib.Core.Bool.{Bool, true, false, ◌||◌, true≢false}
use mathlib.Core.List.{List}
use Prim.Native.Nat.{ℕ, ◌+◌, ◌≤◌, ◌<◌}
use native.Mathlib.Omega.{arith}
use borrow.Author.Tests.{leb-true, eqb-true}
use lib.Dec.{leb, eqb}
use lib.ListN.{length, get_or, length-replicate}
use Rattle.record.specs.Header.{is_class, is_group, is_lead, header_at, put_header}
use Rattle.record.specs.Pointer.{is_pointer, pointer_at, put_pointer}
use Rattle.record.specs.declared.header.Header.{Header}
use Rattle.record.specs.declared.pointer.Pointer.{Pointer}
use Rattle.record.proofs.FieldLaws.{both, put, put_held}
use Rattle.record.proofs.HeaderLaws.{header_parts}
use Rattle.record.proofs.ReadsBack.{fields_of, pointer_fields, header_fields, pointer_fields_lem, Ranges, PointerRanges, header_held, pointer_held, header_length, pointer_length}
use Rattle.judge.proofs.RankLaws.{class_most}
use Rattle.parts.proofs.Local.{At, be_at_lem}
use Rattle.whole.specs.Values.{room, RightHeader, RightPointer}

-- ---- where the same bytes stand
module _ {a : List ℕ} {i : ℕ} {r : List ℕ} (t : At a i r) where
  first_at : 0 < length r → get_or a i 0 ≡ get_or r 0 0
  first_at h = let e : i + 0 ≡ i = omega arith in rw e at (t.byte 0 h)

  pub header_at_lem : 20 ≤ length r → header_at a i ≡ header_at r 0
  unfolding header_at
  header_at_lem h = rw (first_at (omega arith), t.byte 1 (omega arith), t.byte 2 (omega arith), t.byte 3 (omega arith), be_at_lem t 4 4 (omega arith), be_at_lem t 8 6 (omega arith), be_at_lem t 14 6 (omega arith))

  pub pointer_at_lem : 27 ≤ length r → pointer_at a i ≡ pointer_at r 0
  unfolding pointer_at
  pointer_at_lem h = rw (header_at_lem (omega arith), t.byte 20 (omega arith), t.byte 21 (omega arith), t.byte 22 (omega arith), be_at_lem t 23 4 (omega arith))

-- the parts of the test
pub record Lead (h : Header) : Type 0 where
  pub class : is_class h.class ≡ true
  pub group : is_group h.group ≡ true
  pub least : 20 ≤ h.size

pub lead_of : {h : Header} → RightHeader h → Lead h
unfolding is_lead
lead_of {h} r =
    let p = both (is_class h.class) _ (header_parts h r.form).0 in
    let q = both (is_group h.group) (leb 20 h.size) p.1 in
    record { class = p.0; group = q.0; least = leb-true 20 h.size q.1 }

group_small : (g : ℕ) → is_group g ≡ true → g < 256
unfolding is_group
group_small g e = go (leb g 13) refl (eqb g 15) refl (eqb g 99) refl e
  where
    go : (x : Bool) → leb g 13 ≡ x → (y : Bool) → eqb g 15 ≡ y → (z : Bool) → eqb g 99 ≡ z → x || (y || z) ≡ true → g < 256
    go true e y f z k _ = omega (arith, leb-true g 13 e)
    go false e true f z k _ = omega (arith, eqb-true g 15 f)
    go false e false f true k _ = omega (arith, eqb-true g 99 k)
    go false e false f false k t = absurd (true≢false (sym t))

-- right values are in the ranges of the machine's types
ranges_of : {h : Header} → RightHeader h → Ranges h
ranges_of {h} y =
    let l = lead_of y in
    record { class = omega (arith, class_most h.class l.class); group = group_small h.group l.group; subclass = y.subclass; version = y.version; size = y.size; start = y.start; stop = y.stop }

pointer_ranges_of : {p : Pointer} → RightPointer p → PointerRanges p
pointer_ranges_of y = record { header = ranges_of y.header; class = omega (arith, y.eight); group = y.group; subclass = y.subclass; offset = y.offset }

pub pointer_form : {p : Pointer} → RightPointer p → is_pointer p ≡ true
unfolding is_pointer
pointer_form {p} y = rw (y.header.form, y.is_class, y.is_size)

-- THE LAWS: what is written reads back
pub room_long : (n : ℕ) → length (room n) ≡ n
room_long n = length-replicate {A = ℕ} n 0

pub header_long : (h : Header) → length (put_header (room 20) h) ≡ 20
header_long h = header_length (room 20) h ∙ room_long 20

pub pointer_long : (p : Pointer) → length (put_pointer (room 27) p) ≡ 27
pointer_long p = pointer_length (room 27) p ∙ room_long 27

pub header_back : (h : Header) → RightHeader h → header_at (put_header (room 20) h) 0 ≡ h
header_back h y =
    let f = header_fields (room 20) h in
    rw f (header_held (put (room 20) 0 (fields_of h)) h y.form (ranges_of y) (put_held (room 20) 0 (fields_of h) (omega (arith, room_long 20))))

pub pointer_back : (p : Pointer) → RightPointer p → pointer_at (put_pointer (room 27) p) 0 ≡ p
pointer_back p y =
    let f = pointer_fields_lem (room 27) p in
    rw f (pointer_held (put (room 27) 0 (pointer_fields p)) p (pointer_form y) (pointer_ranges_of y) (put_held (room 27) 0 (pointer_fields p) (omega (arith, room_long 27))))
