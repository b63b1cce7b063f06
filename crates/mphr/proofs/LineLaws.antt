-- A line by the code's tests: its name, "= " and line feed, its value, and the numbers of the size and the totals. By rewriting with each
-- test that led there; the kinds of those ten lines are computed. Assumes nothing.
use mathlib.Core.Path.{◌≡◌, refl, sym, ◌∙◌}
use mathlib.Core.Bool.{Bool, true, false, ◌&&◌, cond}
use mathlib.Core.List.{List}
use Prim.Native.Nat.{ℕ, ◌+◌, ◌*◌, ◌≤◌, ◌<◌}
use native.Mathlib.Omega.{arith}
use lib.Dec.{T, eqb, eqb→eq}
use lib.ListN.{length, get_or}
use borrow.Author.Tests.{eq-eqb, ne_eqb, le-leb}
use Rattle.calendar.proofs.Range.{below, at}
use Rattle.meter.specs.General.{lead, number_of}
use Rattle.meter.specs.Lent.{inside}
use Rattle.meter.proofs.GeneralRuns.{lead_is}
use Rattle.text.specs.Field.{is_number, is_value, count_at}
use Rattle.text.proofs.Exact.{is_small}
use Rattle.text.specs.declared.Kind.{Kind}
use Rattle.text.specs.declared.Kind.TheVariants.{Text, Unsigned, Count, Signed, Time, LongTime}
use Rattle.mphr.specs.Table.{named, framed, valued, declared, total}
use Rattle.mphr.specs.Layout.{fields, widths, kinds, names, width_of, kind_of, line_start}
use Rattle.mphr.proofs.LayoutLaws.{start_28, total_start}

-- ---- a line's name, "= " and line feed, in the code's names
pub name_yes : (a : List ℕ) (k p j : ℕ) → p ≡ line_start k → j ≡ 30 → ((i : ℕ) → i < j → get_or a (p + i) 0 ≡ get_or names (30 * k + i) 0) → true ≡ named a k
unfolding named
name_yes a k p j e h f =
    let test : ℕ → Bool = λ i. eqb (get_or a (line_start k + i) 0) (get_or names (30 * k + i) 0) in
    sym (eq-eqb (lead test 30) 30 (lead_is test 30 30 (omega arith) (λ i l. eq-eqb _ _ (rw e at (f i (omega arith)))) (λ l. absurd (omega arith))))

module _ (a : List ℕ) (k p w : ℕ) (e : p ≡ line_start k) (f : w ≡ width_of k) where
  pub frame_name : named a k ≡ false → false ≡ framed a k
  unfolding framed
  frame_name n = rw n

  module _ (n : named a k ≡ true) where
    pub frame_equals : (get_or a (p + 30) 0 ≡ 61 → ⊥) → false ≡ framed a k
    unfolding framed
    frame_equals d = rw (n, ← e, ne_eqb (get_or a (p + 30) 0) 61 d)

    module _ (q : get_or a (p + 30) 0 ≡ 61) where
      pub frame_space : (get_or a (p + 31) 0 ≡ 32 → ⊥) → false ≡ framed a k
      unfolding framed
      frame_space d = rw (n, ← e, eq-eqb (get_or a (p + 30) 0) 61 q, ne_eqb (get_or a (p + 31) 0) 32 d)

      pub frame_feed : get_or a (p + 31) 0 ≡ 32 → eqb (get_or a (p + 32 + w) 0) 10 ≡ framed a k
      unfolding framed
      frame_feed s = rw (n, ← e, ← f, eq-eqb (get_or a (p + 30) 0) 61 q, eq-eqb (get_or a (p + 31) 0) 32 s)

  pub value_is : (d : Kind) (r : Bool) → d ≡ kind_of k → p + w + 33 ≤ length a → r ≡ inside a (p + 32) w && is_value d a (p + 32) w → r ≡ valued a k
  unfolding valued
  value_is d r g l h =
      let i : inside a (p + 32) w ≡ true = le-leb (p + 32 + w) (length a) (omega arith) in
      h ∙ rw (i, e, f, g)

-- ---- the size and the totals
is_count : Kind → Bool
is_count Text = false
is_count Unsigned = false
is_count Count = true
is_count Signed = false
is_count Time = false
is_count LongTime = false

count_is : (d : Kind) (a : List ℕ) (i w : ℕ) → T (is_count d) → is_value d a i w ≡ is_number false a i w
unfolding is_count is_value
count_is Text a i w t = absurd t
count_is Unsigned a i w t = absurd t
count_is Count a i w t = refl
count_is Signed a i w t = absurd t
count_is Time a i w t = absurd t
count_is LongTime a i w t = absurd t

size_kind : T (is_count (kind_of 28))
unfolding is_count kind_of kinds fields
size_kind = tt

size_width : width_of 28 ≡ 11
unfolding width_of widths fields
size_width = refl

pub size_number : (a : List ℕ) → valued a 28 ≡ true → is_number false a 1485 11 ≡ true
unfolding valued
size_number a v =
    let s : line_start 28 + 32 ≡ 1485 = omega (arith, start_28) in
    sym (count_is (kind_of 28) a 1485 11 size_kind) ∙ rw (s, size_width) at v

-- D stands at 1485
pub declared_is : (a : List ℕ) → declared a ≡ number_of a 1485 11
unfolding declared
declared_is a = let s : line_start 28 + 32 ≡ 1485 = omega (arith, start_28) in rw (s, size_width)

total_kinds : T (below (λ (j : ℕ). is_count (kind_of (55 + j))) 9)
unfolding is_count kind_of kinds fields
total_kinds = tt

total_widths : T (below (λ (j : ℕ). eqb (width_of (55 + j)) 6) 9)
unfolding width_of widths fields
total_widths = tt

total_width : (j : ℕ) → j < 9 → width_of (55 + j) ≡ 6
total_width j h = eqb→eq (width_of (55 + j)) 6 (at (λ (j : ℕ). eqb (width_of (55 + j)) 6) 9 total_widths j h)

-- the totals stand from 2675 on
pub total_is : (a : List ℕ) (j : ℕ) → j < 9 → total a j ≡ number_of a (2675 + 39 * j) 6
unfolding total
total_is a j h = rw (total_start j h, total_width j h)

pub total_number : (a : List ℕ) (j : ℕ) → j < 9 → valued a (55 + j) ≡ true → is_number false a (2675 + 39 * j) 6 ≡ true
unfolding valued
total_number a j h v =
    sym (count_is (kind_of (55 + j)) a (2675 + 39 * j) 6 (at (λ (j : ℕ). is_count (kind_of (55 + j))) 9 total_kinds j h)) ∙ rw (total_start j h, total_width j h) at v

-- a total's field counts below a million, whatever its bytes
small : (x y : Bool) (n : ℕ) → (y ≡ true → n < 1000000) → cond (x && y) n 0 < 1000000
small true true n f = f refl
small true false n f = omega arith
small false y n f = omega arith

pub count_most : (a : List ℕ) (i : ℕ) → count_at a i 6 < 1000000
count_most a i = small (inside a i 6) (is_number false a i 6) (number_of a i 6) (is_small false a i 6)
