-- WHICH REFUSALS A FIELD QUERY GIVES: of the judge's it hands on 1 to 6, 10 and 15, since of 3,307 bytes or fewer no other fault of the table is shown; then 17
-- and 22. By the table's rows: each after the first record is shown later, but for 6 and 15 at its end. Assumes nothing.
use Prim.Native.Nat.{ℕ, zero, suc, ◌≤◌}
use native.Mathlib.Omega.{arith}
use mathlib.Core.Path.{refl}
use mathlib.Core.Logic.{inl, inr}
use mathlib.Core.List.{List, [], ◌∷◌}
use lib.ListN.{length, take}
use Rattle.tables.proofs.Laws.{number_is, shown_is}
use Rattle.mphr.specs.Table as M
use Rattle.mphr.proofs.Export.{sized}
use Rattle.judge.specs.Table.{Site, Fault, main, at, too_long, row, Wrong, row_at, part_left, unknown, misplaced, bad_size, bad_times, surplus, bad_target, points_inside, points_at_other, too_few}
use Rattle.judge.proofs.WayLaws.{leads_le}
use Rattle.query.specs.Query.{ShownByMain, FieldRefusal, Denied, short, not_a_field}
use Rattle.query.specs.Query as Q
use Rattle.query.specs.declared.Sort.{Sort}

low : {n : ℕ} → 1 ≤ n → n ≤ 6 → ShownByMain n
low h k = inl (h, k)

of_line : {a : List ℕ} {k : ℕ} (w : M.WrongLine a k) → ShownByMain (M.row_line w).number
of_line (M.bad_frame _) = low (omega arith) (omega arith)
of_line (M.bad_value _) = low (omega arith) (omega arith)

of_main : {a : List ℕ} (g : M.Fault a) → ShownByMain (M.row g).number
of_main (M.bad_header _) = low (omega arith) (omega arith)
of_main (M.bad_line k _ w) = of_line w
of_main (M.bad_size _ _) = low (omega arith) (omega arith)
of_main (M.bad_totals _ _) = low (omega arith) (omega arith)
of_main (M.bad_times _) = inr (inl refl)

of_record : {a : List ℕ} {x : Site} (w : Wrong a x) → 3307 ≤ x.at → (row_at w).shown ≤ 3307 → ShownByMain (row_at w).number
of_record (part_left _ _) l h = low (omega arith) (omega arith)
of_record (unknown _ _) l h = absurd (omega arith)
of_record (misplaced _ _) l h = absurd (omega arith)
of_record (bad_size _ _) l h = absurd (omega arith)
of_record (bad_times _ _) l h = absurd (omega arith)
of_record (surplus _ _) l h = absurd (omega arith)
of_record (bad_target _ _ _) l h = absurd (omega arith)
of_record (points_inside _ _ _ _ _ _) l h = absurd (omega arith)
of_record (points_at_other _ _ _ _ _ _) l h = absurd (omega arith)
of_record (too_few _ _ _ _ _) l h = inr (inr refl)

of_fault : {a : List ℕ} (f : Fault a) → (row f).shown ≤ 3307 → ShownByMain (row f).number
of_fault (main g) h = of_main g
of_fault (at _ x w v) h = of_record v (leads_le w) h
of_fault (too_long e) h = absurd (omega (arith, sized e))

take_most : (n : ℕ) (a : List ℕ) → length (take n a) ≤ n
take_most zero a = omega arith
take_most (suc n) [] = omega arith
take_most (suc n) (x ∷ l) = omega (arith, take_most n l)

pub field_refusals : (a : List ℕ) {k : ℕ} {sort : Sort} {n p : ℕ} → Denied a k sort n p → FieldRefusal n
field_refusals a (Q.Denied.faulty g) =
    let f = g.gives in
    inl (rw (number_is f.is) at (of_fault f.fault (omega (arith, shown_is f.is, f.seen, take_most 3307 a))))
field_refusals a (short _ _) = inr (inl refl)
field_refusals a (not_a_field _ _ _) = inr (inr refl)
