-- `rewrite::lines::set_number` meets its contract: what `text` writes into as many bytes as the line has is the number's spelling. Assumes nothing.
use Prim.Native.Nat.{ℕ, ◌+◌, ◌≤◌}
use native.Mathlib.Omega.{arith}
use mathlib.Core.Path.{◌≡◌, refl, sym, ap, ◌∙◌}
use mathlib.Core.Bool.{false}
use mathlib.Core.List.{List, ◌++◌}
use lib.ListN.{length, take, drop, replicate, length-append}
use lib.Seq.{sets, take_at}
use Rattle.meter.specs.Lent.{wrote}
use Rattle.text.specs.Writing.{fits_number, put_number}
use Rattle.std.specs.declared.option.Option.{Option}
use Rattle.std.specs.Prelude.{ℤ}
use Rattle.mphr.specs.Layout.{width_of, line_start}
use Rattle.parts.specs.Rewritten.{number}
use Rattle.rewrite.specs.Lining.{NumberFor}
use Rattle.rewrite.proofs.LineLaws.{adds_value, place_is, place_lost, zeros_long, number_wrote, number_long}
use Rattle.rewrite.proofs.lines.set_number.Goals as goal
use Rattle.rewrite.proofs.lines.set_number.Goals.{In-Ok}

width_is : (c : In-Ok) → c.in-Ok.place.width ≡ width_of c.args.k
width_is c = (place_is c.args.k _ _ c.requires.1.line c.in-Ok.is c.field_place.ensures).1

-- what is written into w bytes, r, and the digits that it stands in
module _ (k w : ℕ) (x : Option ℤ) (r : List ℕ) (e : w ≡ width_of k) (n : NumberFor k x) (s : r ≡ wrote (take w (replicate 17 0)) w (fits_number false w x) (put_number w (take w (replicate 17 0)) x)) where
  digits_are : r ≡ put_number (width_of k) (replicate (width_of k) 0) x
  digits_are = number_wrote w k x r e n s

  long : length r ≡ w
  long = ap length digits_are ∙ number_long k x ∙ sym e

  within : w ≤ length (r ++ drop w (replicate 17 0))
  within = omega (arith, length-append r (drop w (replicate 17 0)), long)

  text_is : take w (r ++ drop w (replicate 17 0)) ≡ r
  text_is = take_at r (drop w (replicate 17 0)) w long

  text_long : length (take w (r ++ drop w (replicate 17 0))) ≡ w
  text_long = ap length text_is ∙ long

pub returns-in_default : goal.returns-in_default
returns-in_default c = absurd (place_lost c.args.k _ _ c.requires.1.line c.in_default.is c.field_place.ensures)

pub slice_bounds-digits-end : goal.slice_bounds-digits-end
slice_bounds-digits-end c = omega (arith, width_is (goal.at.slice_bounds-digits-end c).In-Ok, c.requires.1.narrow)

pub slice_bounds-write_number-end : goal.slice_bounds-write_number-end
slice_bounds-write_number-end c =
    zeros_long c.in-Ok.place.width (omega (arith, width_is (goal.at.slice_bounds-write_number-end c).In-Ok, c.requires.1.narrow))

pub slice_bounds-digits-end-2 : goal.slice_bounds-digits-end-2
slice_bounds-digits-end-2 c =
    within c.args.k c.in-Ok.place.width c.args.number c.write_number.new.room (width_is (goal.at.slice_bounds-digits-end-2 c).In-Ok) c.requires.1 c.write_number.ensures.1

pub slice_bounds-set_value-end : goal.slice_bounds-set_value-end
slice_bounds-set_value-end c =
    sym (text_long c.args.k c.in-Ok.place.width c.args.number c.write_number.new.room (width_is (goal.at.slice_bounds-set_value-end c).In-Ok) c.requires.1 c.write_number.ensures.1)

pub set_value-requires : goal.set_value-requires
set_value-requires c =
    let e = width_is (goal.at.set_value-requires c).In-Ok in
    (c.requires.1.line, c.requires.0, text_long c.args.k c.in-Ok.place.width c.args.number c.write_number.new.room e c.requires.1 c.write_number.ensures.1 ∙ e)

pub returns : goal.returns
returns c =
    let k = c.args.k in
    let w = c.in-Ok.place.width in
    let r = c.write_number.new.room in
    let e = width_is (goal.at.returns c).In-Ok in
    let s = c.write_number.ensures.1 in
    adds_value c.args.header.now c.set_value.new.header (put_number (width_of k) (replicate (width_of k) 0) c.args.number) k (number c.args.number) c.requires.1.line
    (number_long k c.args.number) (λ m. refl)
    (c.set_value.ensures ∙ ap (sets c.args.header.now (line_start k + 32)) (text_is k w c.args.number r e c.requires.1 s ∙ digits_are k w c.args.number r e c.requires.1 s))
