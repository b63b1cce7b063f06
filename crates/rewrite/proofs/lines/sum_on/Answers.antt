-- `rewrite::lines::sum_on` meets its contract: a line that is no number is undefined, and of two numbers the sum is small. Assumes nothing.
use Prim.Native.Nat.{◌+◌, ◌<◌}
use native.Mathlib.Omega.{arith}
use mathlib.Core.Path.{◌≡◌, ◌∙◌}
use borrow.Author.Tests.{not-true, not-false}
use Rattle.text.specs.Field.{count_at}
use Rattle.mphr.specs.Layout.{width_of, line_start}
use Rattle.rewrite.proofs.LineLaws.{place_is, line_room}
use Rattle.rewrite.proofs.SumLaws.{undefined_here, defined_here, count_here, small_here, sum_x_first, sum_x_second, sum_whole}
use Rattle.rewrite.proofs.lines.sum_on.Goals as goal
use Rattle.rewrite.proofs.lines.sum_on.Goals.{In-Ok, Else-not-is_value-2}

line : (c : In-Ok) → c.args.k < 72
line c = omega (arith, c.requires.2)

stands : (c : In-Ok) → (c.in-Ok.place.start ≡ line_start c.args.k) × (c.in-Ok.place.width ≡ width_of c.args.k)
stands c = place_is c.args.k _ _ (line c) c.in-Ok.is c.field_place.ensures

pub overflow_add-at : goal.overflow_add-at
overflow_add-at c = omega (arith, (stands (goal.at.overflow_add-at c).In-Ok).0, line_room c.args.k (line (goal.at.overflow_add-at c).In-Ok))

pub returns-then-not-is_value : goal.returns-then-not-is_value
returns-then-not-is_value c =
    let h = c.requires.0 in
    sum_x_first c.args.m.now c.args.n.now c.args.k (undefined_here c.args.k c.requires.1 c.requires.2 h.first_long h.first _ _ (stands (goal.at.returns-then-not-is_value c).In-Ok).0 (stands (goal.at.returns-then-not-is_value c).In-Ok).1 c.is_value.result c.is_value.ensures (not-true c.is_value.result c.if-not-is_value.true-raw))

pub returns-then-not-is_value-2 : goal.returns-then-not-is_value-2
returns-then-not-is_value-2 c =
    let h = c.requires.0 in
    sum_x_second c.args.m.now c.args.n.now c.args.k (undefined_here c.args.k c.requires.1 c.requires.2 h.second_long h.second _ _ (stands (goal.at.returns-then-not-is_value-2 c).In-Ok).0 (stands (goal.at.returns-then-not-is_value-2 c).In-Ok).1 c.is_value-2.result c.is_value-2.ensures (not-true c.is_value-2.result c.if-not-is_value-2.true-raw))

-- both are numbers
first_small : (c : Else-not-is_value-2) → count_at c.args.m.now (c.in-Ok.place.start + 32) c.in-Ok.place.width < 100000000
first_small c =
    small_here c.args.k c.requires.1 c.requires.2 c.requires.0.first_long c.requires.0.first _ _ (stands (goal.at.Else-not-is_value-2 c).In-Ok).0 (stands (goal.at.Else-not-is_value-2 c).In-Ok).1 c.is_value.result c.is_value.ensures (not-false c.is_value.result c.if-not-is_value.false-raw)

second-small : (c : Else-not-is_value-2) → count_at c.args.n.now (c.in-Ok.place.start + 32) c.in-Ok.place.width < 100000000
second-small c =
    small_here c.args.k c.requires.1 c.requires.2 c.requires.0.second_long c.requires.0.second _ _ (stands (goal.at.Else-not-is_value-2 c).In-Ok).0 (stands (goal.at.Else-not-is_value-2 c).In-Ok).1 c.is_value-2.result c.is_value-2.ensures (not-false c.is_value-2.result c.if-not-is_value-2.false-raw)

pub overflow_add-count_at : goal.overflow_add-count_at
overflow_add-count_at c = omega (arith, c.count_at.ensures, c.count_at-2.ensures, first_small (goal.at.overflow_add-count_at c).Else-not-is_value-2, second-small (goal.at.overflow_add-count_at c).Else-not-is_value-2)

pub whole-requires : goal.whole-requires
whole-requires c = omega (arith, c.count_at.ensures, c.count_at-2.ensures, first_small (goal.at.whole-requires c).Else-not-is_value-2, second-small (goal.at.whole-requires c).Else-not-is_value-2)

pub returns : goal.returns
returns c =
    let h = c.requires.0 in
    let t = not-false c.is_value.result c.if-not-is_value.false-raw in
    let s = not-false c.is_value-2.result c.if-not-is_value-2.false-raw in
    c.whole.ensures
    ∙ sum_whole c.args.m.now c.args.n.now c.args.k c.count_at.result c.count_at-2.result
    (defined_here c.args.k c.requires.1 c.requires.2 h.first_long h.first _ _ (stands (goal.at.returns c).In-Ok).0 (stands (goal.at.returns c).In-Ok).1 c.is_value.result c.is_value.ensures t)
    (defined_here c.args.k c.requires.1 c.requires.2 h.second_long h.second _ _ (stands (goal.at.returns c).In-Ok).0 (stands (goal.at.returns c).In-Ok).1 c.is_value-2.result c.is_value-2.ensures s)
    (c.count_at.ensures ∙ count_here c.args.k c.requires.1 c.requires.2 h.first_long h.first _ _ (stands (goal.at.returns c).In-Ok).0 (stands (goal.at.returns c).In-Ok).1 c.is_value.result c.is_value.ensures t)
    (c.count_at-2.ensures ∙ count_here c.args.k c.requires.1 c.requires.2 h.second_long h.second _ _ (stands (goal.at.returns c).In-Ok).0 (stands (goal.at.returns c).In-Ok).1 c.is_value-2.result c.is_value-2.ensures s)
