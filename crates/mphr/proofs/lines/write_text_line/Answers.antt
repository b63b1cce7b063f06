-- `mphr::lines::write_text_line` meets its contract: the line is begun, then refused or ended by its value (WritingLaws). Assumes nothing.
use Prim.Native.Nat.{ℕ, ◌<◌}
use native.Mathlib.Omega.{arith}
use mathlib.Core.Path.{◌≡◌, sym, ap, ◌∙◌}
use mathlib.Core.Bool.{true}
use mathlib.Core.List.{List}
use lib.ListN.{length}
use Rattle.mphr.specs.Layout.{width_of, kind_of}
use Rattle.text.specs.Writing.{fits_text, put_text}
use Rattle.text.proofs.Laws.{text_wide}
use Rattle.mphr.specs.Lines.{text_fits, text_on}
use Rattle.mphr.proofs.WritingLaws.{on_both, is_text, Begun, begun_as, begun, begun_room, line_refused, line_ended}
use Rattle.mphr.proofs.lines.write_text_line.Goals as goal
use Rattle.mphr.proofs.lines.write_text_line.Goals.{After-begin_line-begun, In-Ok}

line : (c : After-begin_line-begun) → Begun c.args.room.now c.begin_line-begun.new.room c.args.k (text_on c.args.k c.args.text.now) (λ (r : List ℕ). put_text r c.args.text.now) c.begin_line-begun.result
line c = begun_as c.text_on.ensures c.begin_line-begun.ensures

-- where the line was begun, the value fits
fits : (c : In-Ok) → (c.args.k < 72) × (text_fits (kind_of c.args.k) (width_of c.args.k) c.args.text.now ≡ true)
unfolding text_on
fits c = on_both c.args.k _ (begun (line (goal.at.In-Ok c).After-begin_line-begun) _ c.in-Ok.is).fits

pub begin_line-begun-requires : goal.begin_line-begun-requires
unfolding text_on
begin_line-begun-requires c = λ e. (on_both c.args.k _ (sym c.text_on.ensures ∙ e)).0

pub returns-in_default : goal.returns-in_default
returns-in_default c = line_refused (line (goal.at.returns-in_default c).After-begin_line-begun) _ c.in_default.is

pub slice_bounds-write_text-count : goal.slice_bounds-write_text-count
slice_bounds-write_text-count c = omega (arith, begun_room (line (goal.at.slice_bounds-write_text-count c).After-begin_line-begun) _ c.in-Ok.is)

pub slice_bounds-write_text-start : goal.slice_bounds-write_text-start
slice_bounds-write_text-start c = omega (arith, begun_room (line (goal.at.slice_bounds-write_text-start c).After-begin_line-begun) _ c.in-Ok.is)

pub returns : goal.returns
returns c =
    let a = c.args in
    let f = (is_text (kind_of a.k) (width_of a.k) a.text.now (fits (goal.at.returns c).In-Ok).1).1 in
    let l = text_wide (width_of a.k) a.text.now f in
    line_ended (line (goal.at.returns c).After-begin_line-begun) _ (length a.text.now) c.write_text.new.room (fits_text (length a.text.now) a.text.now) c.in-Ok.is (omega (arith, l)) (ap (λ (n : ℕ). fits_text n a.text.now) l ∙ f) c.write_text.ensures.1
