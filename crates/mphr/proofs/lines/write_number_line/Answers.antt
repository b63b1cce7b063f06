-- `mphr::lines::write_number_line` meets its contract: the line is begun, then refused or ended by its value (WritingLaws). Assumes nothing.
use Prim.Native.Nat.{ℕ, ◌-◌, ◌<◌}
use native.Mathlib.Omega.{arith}
use mathlib.Core.Path.{◌≡◌, sym, ap, ◌∙◌}
use mathlib.Core.Bool.{true}
use mathlib.Core.List.{List}
use lib.ListN.{length}
use Rattle.mphr.specs.Layout.{width_of, kind_of}
use borrow.Rule.Slice.PartMut.{mid_of}
use Rattle.meter.specs.Lent.{wrote}
use Rattle.text.specs.Writing.{fits_number, put_number}
use Rattle.mphr.specs.Lines.{number_fits, number_on}
use Rattle.mphr.proofs.WritingLaws.{on_both, number_fits_lem, Begun, begun_as, begun, begun_room, line_refused, line_ended}
use Rattle.mphr.proofs.lines.write_number_line.Goals as goal
use Rattle.mphr.proofs.lines.write_number_line.Goals.{After-begin_line-begun, In-Ok}

line : (c : After-begin_line-begun) → Begun c.args.room.now c.begin_line-begun.new.room c.args.k (number_on c.args.k c.args.number) (λ (r : List ℕ). put_number (width_of c.args.k) r c.args.number) c.begin_line-begun.result
line c = begun_as c.number_on.ensures c.begin_line-begun.ensures

-- where the line was begun, the value fits
fits : (c : In-Ok) → (c.args.k < 72) × (number_fits (kind_of c.args.k) (width_of c.args.k) c.args.number ≡ true)
unfolding number_on
fits c = on_both c.args.k _ (begun (line (goal.at.In-Ok c).After-begin_line-begun) _ c.in-Ok.is).fits

pub begin_line-begun-requires : goal.begin_line-begun-requires
unfolding number_on
begin_line-begun-requires c = λ e. (on_both c.args.k _ (sym c.number_on.ensures ∙ e)).0

pub returns-in_default : goal.returns-in_default
returns-in_default c = line_refused (line (goal.at.returns-in_default c).After-begin_line-begun) _ c.in_default.is

pub slice_bounds-write_number-count : goal.slice_bounds-write_number-count
slice_bounds-write_number-count c = omega (arith, begun_room (line (goal.at.slice_bounds-write_number-count c).After-begin_line-begun) _ c.in-Ok.is)

pub slice_bounds-write_number-start : goal.slice_bounds-write_number-start
slice_bounds-write_number-start c = omega (arith, begun_room (line (goal.at.slice_bounds-write_number-start c).After-begin_line-begun) _ c.in-Ok.is)

pub width-requires : goal.width-requires
width-requires c = (fits (goal.at.width-requires c).In-Ok).0

pub returns : goal.returns
returns c =
    let a = c.args in
    let xs = c.begin_line-begun.new.room in
    let mid = mid_of 32 (length xs - 32) xs in
    let e = c.width.ensures.0 in
    let n = c.width.result in
    line_ended (line (goal.at.returns c).After-begin_line-begun) _ n c.write_number.new.room (fits_number true n a.number) c.in-Ok.is (omega (arith, e)) (ap (λ (m : ℕ). fits_number true m a.number) e ∙ number_fits_lem (kind_of a.k) (width_of a.k) a.number (fits (goal.at.returns c).In-Ok).1) (c.write_number.ensures.1 ∙ ap (λ (m : ℕ). wrote mid n (fits_number true n a.number) (put_number m mid a.number)) e)
