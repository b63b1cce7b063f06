-- `uth::judge::segment` meets its contract: each way out by the tests that lead there. Assumes nothing.
use mathlib.Core.Path.{◌≡◌, sym, ap, ◌∙◌}
use Rattle.calendar.specs.Said.{said}
use mathlib.Core.Bool.{true}
use Prim.Native.Nat.{ℕ, ◌+◌, ◌≤◌}
use native.Mathlib.Omega.{arith}
use borrow.Author.Tests.{not-true, not-false}
use lib.IntN.{nat_abs}
use lib.ListN.{length}
use Rattle.calendar.specs.Said.{answer}
use Rattle.meter.specs.Integer.{twos, half_of}
use Rattle.uth.specs.Layout.{line, column, blocks, is_grid, is_some}
use Rattle.uth.proofs.FieldLaws.{some_number}
use Rattle.uth.proofs.JudgeLaws.{cut_line, line_out, cut_column, column_out, cut_header, none_out, cut_block, whole}
use Rattle.uth.proofs.judge.segment.Goals as goal
use Rattle.uth.proofs.judge.segment.Goals.{Else-left-lt4, After-is_grid, Else-left-lt8, After-is_grid-2, Else-left-lt36, After-is_some}

-- what is known of the segment at each place
there-4 : (c : Else-left-lt4) → c.args.p + 4 ≤ length c.args.bytes.now
there-4 c = omega arith

lined : (c : After-is_grid) → c.is_grid.result ≡ is_grid (line c.args.bytes.now c.args.p)
lined c = c.is_grid.ensures ∙ ap (λ (v : ℕ). is_grid (twos (half_of 4) v)) c.word.ensures.0

there-8 : (c : Else-left-lt8) → c.args.p + 8 ≤ length c.args.bytes.now
there-8 c = omega arith

columned : (c : After-is_grid-2) → c.is_grid-2.result ≡ is_grid (column c.args.bytes.now c.args.p)
columned c = c.is_grid-2.ensures ∙ ap (λ (v : ℕ). is_grid (twos (half_of 4) v)) c.word-2.ensures.0

there-36 : (c : Else-left-lt36) → c.args.p + 36 ≤ length c.args.bytes.now
there-36 c = omega arith

some : (c : After-is_some) → c.is_some.result ≡ is_some (blocks c.args.bytes.now c.args.p)
some c = c.is_some.ensures ∙ ap (λ (v : ℕ). is_some (twos (half_of 4) v)) c.word-n.ensures.0

pub returns-then-left-lt4 : goal.returns-then-left-lt4
returns-then-left-lt4 c =
    let a = c.args.bytes.now in
    let p = c.args.p in
    ap said c.refused.ensures ∙ sym (cut_line a p (omega arith))

pub returns-then-not-is_grid : goal.returns-then-not-is_grid
returns-then-not-is_grid c =
    let a = c.args.bytes.now in
    let p = c.args.p in
    ap said c.refused-then-not-is_grid.ensures ∙ sym (line_out a p (there-4 (goal.at.returns-then-not-is_grid c).Else-left-lt4) (sym (lined (goal.at.returns-then-not-is_grid c).After-is_grid) ∙ not-true c.is_grid.result c.if-not-is_grid.true-raw))

pub returns-then-left-lt8 : goal.returns-then-left-lt8
returns-then-left-lt8 c =
    let a = c.args.bytes.now in
    let p = c.args.p in
    ap said c.refused-then-left-lt8.ensures ∙ sym (cut_column a p (there-4 (goal.at.returns-then-left-lt8 c).Else-left-lt4) (sym (lined (goal.at.returns-then-left-lt8 c).After-is_grid) ∙ not-false c.is_grid.result c.if-not-is_grid.false-raw) (omega arith))

pub returns-then-not-is_grid-2 : goal.returns-then-not-is_grid-2
returns-then-not-is_grid-2 c =
    let a = c.args.bytes.now in
    let p = c.args.p in
    ap said c.refused-then-not-is_grid-2.ensures
    ∙ sym (column_out a p (there-4 (goal.at.returns-then-not-is_grid-2 c).Else-left-lt4) (sym (lined (goal.at.returns-then-not-is_grid-2 c).After-is_grid) ∙ not-false c.is_grid.result c.if-not-is_grid.false-raw) (there-8 (goal.at.returns-then-not-is_grid-2 c).Else-left-lt8) (sym (columned (goal.at.returns-then-not-is_grid-2 c).After-is_grid-2) ∙ not-true c.is_grid-2.result c.if-not-is_grid-2.true-raw))

pub returns-then-left-lt36 : goal.returns-then-left-lt36
returns-then-left-lt36 c =
    let a = c.args.bytes.now in
    let p = c.args.p in
    ap said c.refused-then-left-lt36.ensures
    ∙ sym (cut_header a p (there-4 (goal.at.returns-then-left-lt36 c).Else-left-lt4) (sym (lined (goal.at.returns-then-left-lt36 c).After-is_grid) ∙ not-false c.is_grid.result c.if-not-is_grid.false-raw) (there-8 (goal.at.returns-then-left-lt36 c).Else-left-lt8) (sym (columned (goal.at.returns-then-left-lt36 c).After-is_grid-2) ∙ not-false c.is_grid-2.result c.if-not-is_grid-2.false-raw) (omega arith))

pub returns-then-not-is_some : goal.returns-then-not-is_some
returns-then-not-is_some c =
    let a = c.args.bytes.now in
    let p = c.args.p in
    ap said c.refused-then-not-is_some.ensures
    ∙ sym (none_out a p (there-4 (goal.at.returns-then-not-is_some c).Else-left-lt4) (sym (lined (goal.at.returns-then-not-is_some c).After-is_grid) ∙ not-false c.is_grid.result c.if-not-is_grid.false-raw) (there-8 (goal.at.returns-then-not-is_some c).Else-left-lt8) (sym (columned (goal.at.returns-then-not-is_some c).After-is_grid-2) ∙ not-false c.is_grid-2.result c.if-not-is_grid-2.false-raw) (there-36 (goal.at.returns-then-not-is_some c).Else-left-lt36) (sym (some (goal.at.returns-then-not-is_some c).After-is_some) ∙ not-true c.is_some.result c.if-not-is_some.true-raw))

pub returns-then-left-n : goal.returns-then-left-n
returns-then-left-n c =
    let a = c.args.bytes.now in
    let p = c.args.p in
    let i : is_some (blocks a p) ≡ true = sym (some (goal.at.returns-then-left-n c).After-is_some) ∙ not-false c.is_some.result c.if-not-is_some.false-raw in
    let w = c.word-n in
    let n : nat_abs (blocks a p) ≡ w.result = ap (λ (v : ℕ). nat_abs (twos (half_of 4) v)) (sym w.ensures.0) ∙ some_number w.result w.ensures.1 (sym c.is_some.ensures ∙ not-false c.is_some.result c.if-not-is_some.false-raw) in
    ap said c.refused-then-left-n.ensures
    ∙ sym (cut_block a p (there-4 (goal.at.returns-then-left-n c).Else-left-lt4) (sym (lined (goal.at.returns-then-left-n c).After-is_grid) ∙ not-false c.is_grid.result c.if-not-is_grid.false-raw) (there-8 (goal.at.returns-then-left-n c).Else-left-lt8) (sym (columned (goal.at.returns-then-left-n c).After-is_grid-2) ∙ not-false c.is_grid-2.result c.if-not-is_grid-2.false-raw) (there-36 (goal.at.returns-then-left-n c).Else-left-lt36) i (omega (arith, n, c.if-left-n.true, there-36 (goal.at.returns-then-left-n c).Else-left-lt36)))

pub returns : goal.returns
returns c =
    let a = c.args.bytes.now in
    let p = c.args.p in
    let i : is_some (blocks a p) ≡ true = sym (some (goal.at.returns c).After-is_some) ∙ not-false c.is_some.result c.if-not-is_some.false-raw in
    let w = c.word-n in
    let n : nat_abs (blocks a p) ≡ w.result = ap (λ (v : ℕ). nat_abs (twos (half_of 4) v)) (sym w.ensures.0) ∙ some_number w.result w.ensures.1 (sym c.is_some.ensures ∙ not-false c.is_some.result c.if-not-is_some.false-raw) in
    ap answer (sym n)
    ∙ sym (whole a p (there-4 (goal.at.returns c).Else-left-lt4) (sym (lined (goal.at.returns c).After-is_grid) ∙ not-false c.is_grid.result c.if-not-is_grid.false-raw) (there-8 (goal.at.returns c).Else-left-lt8) (sym (columned (goal.at.returns c).After-is_grid-2) ∙ not-false c.is_grid-2.result c.if-not-is_grid-2.false-raw) (there-36 (goal.at.returns c).Else-left-lt36) i (omega (arith, n, c.if-left-n.false, there-36 (goal.at.returns c).Else-left-lt36)))
