-- `finish::row::put_row` meets its contract: the counter of the record's triple is its ordinal, and goes up by one. Assumes nothing.
use Prim.Native.Nat.{ℕ, ◌+◌, ◌≤◌}
use native.Mathlib.Omega.{arith}
use mathlib.Core.Path.{ap, ◌∙◌}
use lib.ListN.{get_or, set}
use Rattle.finish.specs.Rows.{row}
use Rattle.finish.proofs.row.put_row.Goals as goal
use Rattle.finish.proofs.row.put_row.Goals.{After-slot-j}

-- the counter
few : (c : After-slot-j) → get_or c.args.counts.now c.slot-j.result 0 ≤ 2147483647
few c =
    let e = c.slot-j.ensures in
    omega (arith, ap (λ (j : ℕ). get_or c.args.counts.now j 0) e.same, c.requires.few e.byte)

pub overflow_add-counts : goal.overflow_add-counts
overflow_add-counts c = record { fits = omega (arith, few (goal.at.overflow_add-counts c).After-slot-j) }

pub row_at-requires : goal.row_at-requires
row_at-requires c = let p = c.requires in (p.here, p.small, p.sized)

pub returns : goal.returns
returns c =
    let a = c.args in
    let e = c.slot-j.ensures in
    record {
      byte = e.byte;
      row = ap (set a.rows.now a.k) (c.row_at.ensures ∙ ap (λ (j : ℕ). row a.s.now a.at (get_or a.counts.now j 0)) e.same);
      counter = ap (λ (j : ℕ). set a.counts.now j (get_or a.counts.now j 0 + 1)) e.same;
    }
