-- `text::fits_number` meets its contract: the width, then the number taken apart. Assumes nothing.
use Rattle.text.proofs.Laws.{fits_wide, fits_undefined, fits_whole}
use Rattle.text.specs.Writing.{spelled}
use mir.ValLaws.{to_z-of_z}
use mir.Syntax.{w64}
use Prim.Native.Nat.{◌≤◌, ◌<◌}
use native.Mathlib.Omega.{arith}
use borrow.Author.Tests.{lt-leb, lt-ltb, le-ltb}
use mathlib.Core.Path.{ap, ◌∙◌}
use Rattle.text.proofs.fits_number.Goals as goal

pub returns-then-width-eq0 : goal.returns-then-width-eq0
returns-then-width-eq0 c =
    let a = c.args in
    let h : a.width ≤ 0 = omega arith in
    fits_wide a.signed a.width a.number (rw (le-ltb 0 a.width h))

pub returns-then-width-gt17 : goal.returns-then-width-gt17
returns-then-width-gt17 c =
    let a = c.args in
    let h : 0 < a.width = omega arith in
    let l : 17 < a.width = omega arith in
    fits_wide a.signed a.width a.number (rw (lt-ltb 0 a.width h, lt-leb a.width 17 l))

pub returns-in-None : goal.returns-in-None
returns-in-None c = let a = c.args in fits_undefined a.signed a.width a.number (omega arith) (omega arith) c.in-None.is

pub returns-in-Some : goal.returns-in-Some
returns-in-Some c =
    let a = c.args in
    let z = to_z-of_z w64 c.in-Some.z (record { sfits = c.in-Some.known_told-1-own.given.0.1 }) in
    c.spells.ensures ∙ ap (spelled a.signed a.width) z ∙ fits_whole a.signed a.width a.number (omega arith) (omega arith) c.in-Some.z c.in-Some.is
