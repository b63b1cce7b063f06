-- `mphr::lines::write_time_line` meets its contract: the line is begun, then refused or ended by its value (WritingLaws). Assumes nothing.
use Prim.Native.Nat.{ℕ, ◌+◌, ◌-◌, ◌<◌}
use native.Mathlib.Omega.{arith}
use mathlib.Core.Path.{◌≡◌, sym, ap, ◌∙◌}
use mathlib.Core.Bool.{Bool, true}
use mathlib.Core.List.{List}
use lib.ListN.{length}
use Rattle.mphr.specs.Layout.{kind_of}
use borrow.Rule.Slice.PartMut.{mid_of}
use Rattle.meter.specs.Lent.{wrote}
use Rattle.meter.specs.General.{digits_of, fits_general, put_general}
use Rattle.mphr.specs.Lines.{time_fits, is_long, time_on}
use Rattle.mphr.proofs.WritingLaws.{on_both, time_fits_lem, time_wide, Begun, begun_as, begun, begun_room, line_refused, line_ended}
use Rattle.mphr.proofs.lines.write_time_line.Goals as goal
use Rattle.mphr.proofs.lines.write_time_line.Goals.{After-begin_line-begun, In-Ok}

line : (c : After-begin_line-begun) → Begun c.args.room.now c.begin_line-begun.new.room c.args.k (time_on c.args.k c.args.time) (λ (r : List ℕ). put_general (digits_of (is_long (kind_of c.args.k))) r c.args.time) c.begin_line-begun.result
line c = begun_as c.time_on.ensures c.begin_line-begun.ensures

-- where the line was begun, the value fits
fits : (c : In-Ok) → (c.args.k < 72) × (time_fits (kind_of c.args.k) c.args.time ≡ true)
unfolding time_on
fits c = on_both c.args.k _ (begun (line (goal.at.In-Ok c).After-begin_line-begun) _ c.in-Ok.is).fits

pub begin_line-begun-requires : goal.begin_line-begun-requires
unfolding time_on
begin_line-begun-requires c = λ e. (on_both c.args.k _ (sym c.time_on.ensures ∙ e)).0

pub returns-in_default : goal.returns-in_default
returns-in_default c = line_refused (line (goal.at.returns-in_default c).After-begin_line-begun) _ c.in_default.is

pub slice_bounds-write_general-count : goal.slice_bounds-write_general-count
slice_bounds-write_general-count c = omega (arith, begun_room (line (goal.at.slice_bounds-write_general-count c).After-begin_line-begun) _ c.in-Ok.is)

pub slice_bounds-write_general-start : goal.slice_bounds-write_general-start
slice_bounds-write_general-start c = omega (arith, begun_room (line (goal.at.slice_bounds-write_general-start c).After-begin_line-begun) _ c.in-Ok.is)

pub is_long-requires : goal.is_long-requires
is_long-requires c = (fits (goal.at.is_long-requires c).In-Ok).0

pub returns : goal.returns
returns c =
    let a = c.args in
    let xs = c.begin_line-begun.new.room in
    let mid = mid_of 32 (length xs - 32) xs in
    let long = is_long (kind_of a.k) in
    line_ended (line (goal.at.returns c).After-begin_line-begun) _ (digits_of long + 1) c.write_general.new.room (fits_general long a.time) c.in-Ok.is (omega (arith, time_wide a.k a.time (fits (goal.at.returns c).In-Ok).0 (fits (goal.at.returns c).In-Ok).1)) (time_fits_lem (kind_of a.k) a.time (fits (goal.at.returns c).In-Ok).1) (c.write_general.ensures.1 ∙ ap (λ (l : Bool). wrote mid (digits_of l + 1) (fits_general l a.time) (put_general (digits_of l) mid a.time)) c.is_long.ensures)
