-- The laws of the layout: where the lines start, computed; each after the one before. Each is one computed test over the lines, or an
-- induction on the line. Assumes nothing.
use mathlib.Core.Path.{◌≡◌, refl, ap, ◌∙◌}
use Prim.Native.Nat.{ℕ, zero, suc, ◌+◌, ◌*◌, ◌-◌, ◌≤◌, ◌<◌}
use native.Mathlib.Nat.{le_refl}
use native.Mathlib.Numerals.{unary_clauses}
use native.Mathlib.Omega.{arith}
use lib.Dec.{T, leb, leb→le, eqb, eqb→eq}
use lib.ListN.{get_or, get_or-map}
use Rattle.text.specs.declared.Kind.{Kind}
use Rattle.text.specs.declared.Kind.TheVariants.{Text, Unsigned, Count, Signed, Time, LongTime}
use Rattle.calendar.proofs.Range.{below, at}
use Rattle.mphr.specs.Layout.{fields, widths, kinds, code_of, kind_from, codes, width_of, kind_of, line_start, starts}

-- THE LAYOUT, computed: line 28 starts at 1453, the totals' lines at 2643 and after 2994, and the record ends at 3307
pub start_28 : line_start 28 ≡ 1453
unfolding line_start width_of widths fields
start_28 = refl

pub start_29 : line_start 29 ≡ 1497
unfolding line_start width_of widths fields
start_29 = refl

pub start_64 : line_start 64 ≡ 2994
unfolding line_start width_of widths fields
start_64 = refl

pub start_72 : line_start 72 ≡ 3307
unfolding line_start width_of widths fields
start_72 = refl

-- the totals' values stand 39 bytes apart
total_starts : T (below (λ (j : ℕ). eqb (line_start (55 + j) + 32) (2675 + 39 * j)) 9)
unfolding line_start width_of widths fields
total_starts = tt

pub total_start : (j : ℕ) → j < 9 → line_start (55 + j) + 32 ≡ 2675 + 39 * j
total_start j h = eqb→eq _ _ (at (λ (j : ℕ). eqb (line_start (55 + j) + 32) (2675 + 39 * j)) 9 total_starts j h)

-- the starts as a list
starts_are : T (below (λ (k : ℕ). eqb (get_or starts k 0) (line_start k)) 72)
unfolding starts line_start width_of widths fields
starts_are = tt

pub start_at : (k : ℕ) → k < 72 → get_or starts k 0 ≡ line_start k
start_at k h = eqb→eq _ _ (at (λ (k : ℕ). eqb (get_or starts k 0) (line_start k)) 72 starts_are k h)

-- no value is wider than 67
widths_most : T (below (λ (k : ℕ). leb (width_of k) 67) 72)
unfolding width_of widths fields
widths_most = tt

pub width_most : (k : ℕ) → k < 72 → width_of k ≤ 67
width_most k h = leb→le _ _ (at (λ (k : ℕ). leb (width_of k) 67) 72 widths_most k h)

-- the kind of a line by its number
pub kind_back : (x : Kind) → kind_from (code_of x) ≡ x
kind_back Text = refl
kind_back Unsigned = refl
kind_back Count = refl
kind_back Signed = refl
kind_back Time = refl
kind_back LongTime = refl

-- each line starts after the one before
pub start_next : (k : ℕ) → line_start (suc k) ≡ line_start k + width_of k + 33
unfolding line_start
start_next k = refl

pub start_le : (j d : ℕ) → line_start j ≤ line_start (j + d)
start_le j zero = simp unary_clauses (le_refl (line_start j))
start_le j (suc d) = simp unary_clauses (omega (arith, start_le j d, start_next (j + d)))

pub start_mono : {j k : ℕ} → j ≤ k → line_start j ≤ line_start k
start_mono {j} {k} h = go k (k - j) (omega arith)
  where
    go : (k d : ℕ) → k ≡ j + d → line_start j ≤ line_start k
    go k d e = rw e (start_le j d)

pub start_less : {j k : ℕ} → j < k → line_start j < line_start k
start_less {j} {k} h = omega (arith, start_next j, start_mono {j = suc j} {k = k} h)
