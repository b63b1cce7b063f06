-- How large a listing can be: a product of at most 65,536 bytes has a listing of at most 131,072, so a room of that size is never too small. By 28
-- bytes at most for each line, and 20 at least for each record. Assumes nothing.
use Prim.Native.Nat.{ℕ, ◌+◌, ◌*◌, ◌^◌, ◌≤◌, ◌<◌}
use native.Mathlib.Omega.{arith}
use mathlib.Core.Path.{◌≡◌, refl, ap}
use mathlib.Core.List.{List, ◌++◌}
use lib.ListN.{length, get_or, length-append}
use Rattle.meter.specs.Integer.{Bytes}
use Rattle.tables.proofs.Laws.{number_is}
use Rattle.judge.specs.Table.{Site, size_at, Leads, here, on}
use Rattle.judge.proofs.WayLaws.{numbers}
use Rattle.mphr.specs.Table.{declared}
use Rattle.judge.specs.Extent.{Complete, Covered}
use Rattle.finish.specs.Finish.{starts}
use Rattle.judge.proofs.Covering.{whole_come}
use Rattle.demands.proofs.Accepted.{complete_is_product}
use Rattle.demands.proofs.Counting.{main_size}
use Rattle.listing.specs.Decimal.{column}
use Rattle.listing.specs.Listing.{line, lines, listing, NoList, too_large, faulty, short, no_room, refusal_line}
use Rattle.listing.proofs.DecimalLaws.{length_most}
use Rattle.listing.proofs.ColumnLaws.{column_length}
use Rattle.listing.proofs.WalkLaws.{line_length, listing_parts}
use Rattle.calendar.specs.declared.Refusal.{Refusal}
use Rattle.listing.proofs.LineLaws.{line_bytes}

line_small : (a : List ℕ) (i : ℕ) → Bytes a → i ≤ 65536 → size_at a i ≤ 65536 → length (line a i) ≤ 28
line_small a i b h s =
    omega (
      arith,
      line_length a i,
      length_most 4 i (omega arith),
      length_most 2 (get_or a i 0) (omega (arith, b i)),
      length_most 2 (get_or a (i + 1) 0) (omega (arith, b (i + 1))),
      length_most 2 (get_or a (i + 2) 0) (omega (arith, b (i + 2))),
      length_most 2 (get_or a (i + 3) 0) (omega (arith, b (i + 3))),
      length_most 4 (size_at a i) (omega arith),
    )

lines_small : {a : List ℕ} {x y : Site} → Bytes a → declared a ≤ 65536 → (l : Leads a x y) → 20 * length (lines a (starts l)) + 28 * x.at ≤ 28 * y.at
unfolding lines
lines_small b h here = omega arith
lines_small {a} b h (on {x = x} s l) =
    omega (
      arith,
      length-append (line a x.at) (lines a (starts l)),
      line_small a x.at b (omega (arith, s.most, h)) (omega (arith, s.most, h)),
      lines_small b h l,
      s.least,
    )

-- a record has a byte at least
fewer : {a : List ℕ} {x y : Site} → Leads a x y → y.count + x.at ≤ x.count + y.at
fewer here = omega arith
fewer (on s l) = omega (arith, fewer l, s.least)

pub enough : {a : List ℕ} {c : ℕ} → Bytes a → length a ≤ 65536 → Complete a → (v : Covered a c) → length (listing v) ≤ 131072
enough {a} {c} b h k v =
    let d : declared a ≤ 65536 = omega (arith, whole_come k) in
    let ls = lines a (starts v.way) in
    omega (
      arith,
      ap length (listing_parts v),
      length-append (column c 10) (line a 0 ++ ls),
      length-append (line a 0) ls,
      column_length c 10,
      length_most 4 c (omega (arith, v.counted, v.ends, fewer v.way, d)),
      line_small a 0 b (omega arith) (omega (arith, main_size a (complete_is_product k).header.header)),
      lines_small b d v.way,
      v.ends,
      d,
    )

-- with such a room nothing is refused for want of room: no row of the table has the number 18
pub never_18 : {a room : List ℕ} {n p : ℕ} → Bytes a → 131072 ≤ length room → NoList a room n p → n ≡ 18 → ⊥
never_18 b r (too_large h) e = omega arith
never_18 b r (faulty h g) e = omega (arith, number_is g.gives.is, numbers g.gives.fault)
never_18 b r (short h c s) e = omega arith
never_18 b r (no_room h k v l) e = omega (arith, enough b h k v)

-- 33 bytes are enough for the line of each refusal
pub line_enough : (x : Refusal) → x.number < 256 → x.place < 2 ^ 64 → length (refusal_line x) ≤ 33
line_enough x h l = omega (arith, line_bytes x refl refl refl, length_most 2 x.number (omega arith), length_most 19 x.place (omega arith))
