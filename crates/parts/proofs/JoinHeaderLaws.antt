-- THE JOIN, WHOLE (02, request Seven): each line of its main header fits, so that the header with those lines fits the list, and the result is a product.
-- Assumes nothing.
use Prim.Native.Nat.{ℕ, suc, ◌+◌, ◌<◌}
use native.Mathlib.Omega.{arith}
use mathlib.Core.Path.{◌≡◌, sym, ◌∙◌}
use mathlib.Core.Bool.{true}
use mathlib.Core.List.{List}
use borrow.Author.Tests.{eq-eqb}
use lib.ListN.{length, take, drop, length-append, length-take, length-drop}
use lib.Seq.{length-take-le}
use Rattle.meter.proofs.GeneralRuns.{in_each}
use Rattle.text.specs.Writing.{fits_text}
use Rattle.text.proofs.Alike.{value_alike}
use Rattle.mphr.specs.Layout.{width_of, kind_of, line_start}
use Rattle.mphr.specs.Table.{valued}
use Rattle.mphr.proofs.LayoutLaws.{start_next, start_mono, start_72}
use Rattle.demands.specs.Product.{Meets}
use Rattle.parts.specs.Parts.{bytes_of, Built, main_of, records_at}
use Rattle.parts.specs.Join.{join_parts}
use Rattle.parts.specs.Rewritten.{value_of, copied, fits_line, Rewritten, count_lines, Holdable}
use Rattle.parts.specs.JoinHeader.{ended_as, join_lines, join_values, SumsFit}
use Rattle.parts.proofs.Built.{built_meets, meets_built}
use Rattle.parts.proofs.HeaderLaws.{AllFit, values_fit, counts_are, rewritten_fits, value_like}
use Rattle.parts.proofs.CutHeaderLaws.{counts_fit, Print, print_append, print_take, print_drop, name_line, name_long, name_prints}
use Rattle.parts.proofs.JoinLaws.{join_tiles}

pub ended_long : (x y : List ℕ) → length x ≡ 67 → length y ≡ 67 → length (ended_as x y) ≡ 67
ended_long x y l k = simp (length-append, length-take, length-drop) (omega arith)

module _ (x y : List ℕ) (l : length x ≡ 67) (k : length y ≡ 67) (p : Print x) (q : Print y) where
  ended_text : Print (ended_as x y)
  ended_text = print_append (take 32 x) _ (print_take 32 x p) (print_append (take 15 (drop 32 y)) _ (print_take 15 (drop 32 y) (print_drop 32 y q)) (print_drop 47 x p))

  ended_fits : fits_text 67 (ended_as x y) ≡ true
  ended_fits = rw (eq-eqb (length (ended_as x y)) 67 (ended_long x y l k)) (in_each 32 126 (ended_as x y) 0 67 (λ j h. let z : 0 + j ≡ j = omega arith in rw z (ended_text j (omega (arith, ended_long x y l k)))))

-- a value of another header fits its own line
pub copied_fits : {n : List ℕ} {ss : List (List ℕ)} → Built n ss → (k : ℕ) → k < 72 → fits_line k (copied (value_of n k)) ≡ true
unfolding valued
copied_fits {n} b k h =
    let e : length (value_of n k) ≡ width_of k = length-take-le (width_of k) (drop (line_start k + 32) n) (omega (arith, length-drop (line_start k + 32) n, b.fits.long, start_next k, start_mono {j = k + 1} {k = 72} (omega arith), start_72, same)) in
    rw (eq-eqb (length (value_of n k)) (width_of k) e) (sym (value_alike (value_like n k) (kind_of k)) ∙ (b.fits.header.lines k h).1)
  where
    same : line_start (k + 1) ≡ line_start k + width_of k + 33
    same = let z : k + 1 ≡ suc k = omega arith in rw z (start_next k)

module _ {m n : List ℕ} {rs ss : List (List ℕ)} (b : Built m rs) (c : Built n ss) (sums : SumsFit m n) where
  join_lines_fit : AllFit (join_lines m n)
  join_lines_fit = (
    name_line (ended_as (value_of m 0) (value_of n 0)) (ended_fits (value_of m 0) (value_of n 0) (name_long b) (name_long c) (name_prints b) (name_prints c)),
    (
      copied_fits c 11 (omega arith),
      (
        sums 64 (omega arith) (omega arith),
        (
          sums 65 (omega arith) (omega arith),
          (
            sums 66 (omega arith) (omega arith),
            (
              sums 67 (omega arith) (omega arith),
              (
                sums 68 (omega arith) (omega arith),
                (
                  sums 69 (omega arith) (omega arith),
                  (sums 70 (omega arith) (omega arith), tt),
                ),
              ),
            ),
          ),
        ),
      ),
    ),
  )

  -- THE LAW
  pub join_is_built : {m' : List ℕ} → Holdable (join_parts m rs ss) → Rewritten m m' (join_values m n rs ss) → Built m' (join_parts m rs ss)
  join_is_built h r =
      let t = join_tiles b c h.size in
      record {
        fits = rewritten_fits r (λ k _. values_fit (count_lines (join_parts m rs ss) (join_lines m n)) (counts_fit (join_parts m rs ss) (join_lines m n) h join_lines_fit) k) b.fits.header t.order (counts_are (join_parts m rs ss) (join_lines m n)) h.size;
        tiles = t;
      }

-- and of bytes
pub join_accepted : (a b m' : List ℕ) (t : Meets a) (u : Meets b) → SumsFit (main_of a) (main_of b) → Holdable (join_parts (main_of a) (records_at a t.list) (records_at b u.list)) → Rewritten (main_of a) m' (join_values (main_of a) (main_of b) (records_at a t.list) (records_at b u.list)) → Meets (bytes_of m' (join_parts (main_of a) (records_at a t.list) (records_at b u.list)))
join_accepted a b m' t u s h r = built_meets m' (join_parts (main_of a) (records_at a t.list) (records_at b u.list)) (join_is_built (meets_built a t) (meets_built b u) s h r)
