-- THE SAME, QUICKLY COMPUTED: the rows of the main header's lines by walking to each line once, with the names built once. By the law of demands' examples,
-- that a test of a line is a test of what is left from its start on. Assumes nothing.
use Prim.Native.Nat.{ℕ, zero, suc, ◌+◌, ◌*◌}
use mathlib.Core.Path.{◌≡◌, refl, ap}
use mathlib.Core.Bool.{not, ◌&&◌, ◌||◌}
use mathlib.Core.List.{List, [], ◌++◌}
use lib.Dec.{ltb}
use lib.ListN.{length, drop}
use Rattle.tables.specs.Table.{Row, fault}
use Rattle.text.specs.Field.{is_value}
use Rattle.mphr.specs.Layout.{names, width_of, kind_of, line_start}
use Rattle.mphr.specs.Table.{headed, timed, valued, declared}
use Rattle.mphr.proofs.LayoutLaws.{start_next}
use Rattle.judge.specs.declared.arrival.Arrival.{Arrival}
use Rattle.demands.proofs.Example.{is_frame, frame_at, value_at}
use Rattle.arrivals.specs.Computed.{when, line_rows, counted, sums_up, main_rows, rows_with, rows_of, best, said, arrival_of}

-- rows 2 and 3 of line k, which starts at i and has a value of w bytes: b is what is left from there on, n the names from its own on
abbrev pub line_of : List ℕ → List ℕ → ℕ → ℕ → ℕ → List Row → List Row
line_of b n k i w rest = when (not (is_frame b n w)) (fault 2 i (i + w + 33)) ++ (when (not (is_value (kind_of k) b 32 w)) (fault 3 (i + 32) (i + w + 33)) ++ rest)

abbrev pub quick_lines : List ℕ → List ℕ → ℕ → List Row
quick_lines a ns zero = []
quick_lines a ns (suc k) = line_of (drop (line_start k) a) (drop (30 * k) ns) k (line_start k) (width_of k) (quick_lines a ns k)

quick_lines_lem : (a : List ℕ) (n : ℕ) → line_rows a n ≡ quick_lines a names n
quick_lines_lem a zero = refl
quick_lines_lem a (suc k) = rw (frame_at a k, value_at a k, start_next k, quick_lines_lem a k)

abbrev pub quick_main : List ℕ → List ℕ → List Row
quick_main a ns =
    when (not (headed a)) (fault 1 0 20)
    ++ (quick_lines a ns 72
    ++ (when (valued a 28 && (ltb (declared a) 3307 || ltb 2147483647 (declared a))) (fault 4 1485 1497)
    ++ (when (counted a 9 && not (sums_up a)) (fault 5 2675 2994) ++ when (not (timed a)) (fault 10 0 20))))

quick_main_lem : (a : List ℕ) → main_rows a ≡ quick_main a names
unfolding main_rows
quick_main_lem a = rw (quick_lines_lem a 72)

unfoldable pub quickly : List ℕ → Arrival
quickly a = said a (best (length a) (rows_with (quick_main a names) a))

-- THE LAW
pub quick : (a : List ℕ) → arrival_of a ≡ quickly a
unfolding arrival_of rows_of quickly
quick a = ap (λ (m : List Row). said a (best (length a) (rows_with m a))) (quick_main_lem a)
