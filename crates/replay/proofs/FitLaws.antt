-- EACH NUMBER OF AN ANSWER HAS 4 BYTES: a refusal's number is of the table, and no place, count or end passes the declared size, which is below 2^31.
-- Row by row. Assumes nothing.
use Prim.Native.Nat.{ℕ, ◌≤◌, ◌<◌}
use native.Mathlib.Omega.{arith}
use mathlib.Core.Path.{ap}
use mathlib.Core.Logic.{⊎_elim}
use mathlib.Core.List.{List}
use lib.ListN.{length}
use Rattle.tables.specs.Table.{Row}
use Rattle.mphr.specs.Layout.{line_start}
use Rattle.mphr.specs.Table.{declared, bad_header, bad_line, bad_frame, bad_value, bad_size, bad_totals}
use Rattle.mphr.specs.Table as M
use Rattle.mphr.proofs.LayoutLaws.{start_72, start_mono}
use Rattle.mphr.proofs.Export.{clean_fine, sized}
use Rattle.judge.specs.Table.{Site, Leads, here, on, Wrong, part_left, unknown, misplaced, surplus, bad_target, points_inside, points_at_other, too_few, row_at, main, at, too_long}
use Rattle.judge.specs.Table as J
use Rattle.judge.proofs.WayLaws.{numbers}
use Rattle.judge.specs.declared.arrival.Arrival.{Arrival}
use Rattle.judge.specs.declared.arrival.Arrival.TheVariants.{Waiting, Refused}
use Rattle.watch.specs.Watched.{Fault, known, one_too_many, row, Open, Watched}
use Rattle.replay.specs.Steps.{Fits}

-- ---- the places
line_low : (k : ℕ) → k < 72 → line_start k ≤ 3307
line_low k h = omega (arith, start_mono {j = k} {k = 72} (omega arith), start_72)

in_header : {a : List ℕ} (g : M.Fault a) → M.place g ≤ 3339
in_header (bad_header _) = omega arith
in_header (bad_line k h (bad_frame _)) = omega (arith, line_low k h)
in_header (bad_line k h (bad_value _)) = omega (arith, line_low k h)
in_header (bad_size _ _) = omega arith
in_header (bad_totals _ _) = omega arith
in_header (M.bad_times _) = omega arith

in_product : {a : List ℕ} {x : Site} (w : Wrong a x) → (row_at w).place ≤ declared a
in_product (part_left h _) = omega arith
in_product (unknown h _) = omega arith
in_product (misplaced h _) = omega arith
in_product (J.bad_size h _) = omega arith
in_product (J.bad_times h _) = omega arith
in_product (surplus h _) = omega arith
in_product (bad_target s _ _) = omega (arith, s.room)
in_product (points_inside q _ h l _ _) = omega arith
in_product (points_at_other q _ h l _ _) = omega arith
in_product (too_few e _ _ _ _) = omega arith

record Low (r : Row) : Type 0 where
  number : r.number ≤ 24
  place : r.place ≤ 2147483647

low : {a : List ℕ} (f : Fault a) → Low (row f)
low (known (main g)) = record { number = omega (arith, numbers (main g)); place = omega (arith, in_header g) }
low (known (at f x l w)) = record { number = omega (arith, numbers (at f x l w)); place = omega (arith, in_product w, sized f) }
low (known (too_long f)) = record { number = omega arith; place = omega (arith, sized f) }
low (one_too_many f x l s) = record { number = omega arith; place = omega (arith, s.head, sized f) }

-- ---- the count and the end
within : {a : List ℕ} {x y : Site} → Leads a x y → x.at ≤ declared a → x.count ≤ x.at → (y.at ≤ declared a) × (y.count ≤ y.at)
within here h l = (h, l)
within (on s w) h l = within w (omega (arith, s.most)) (omega (arith, s.least))

open_low : {a : List ℕ} {c e : ℕ} → Open a c e → (c ≤ 2147483647) × (e ≤ 2147483647)
open_low {a} {c} {e} o = ⊎_elim (λ z. (omega arith, omega arith)) (λ w. go w) o.whole
  where
    go : (3307 ≤ length a) × J.Whole a c e → (c ≤ 2147483647) × (e ≤ 2147483647)
    go (come, w) =
        let d = sized (clean_fine come (λ g h. o.clean (known (main g)) h)) in
        let i = within w.way d.0 (omega arith) in
        (omega arith, omega arith)

-- LAW: what is right for the watch to say of any bytes fits the record
pub fits : (a : List ℕ) (s : Arrival) → Watched a s → Fits s
fits a (Waiting c e) o = let l = open_low o in record { number = omega arith; place = omega arith; count = omega arith }
fits a (Refused r) g =
    let l = low g.gives.fault in
    let n = ap (λ (q : Row). q.number) g.gives.is in
    let p = ap (λ (q : Row). q.place) g.gives.is in
    record { number = omega (arith, l.number); place = omega (arith, l.place); count = omega arith }
