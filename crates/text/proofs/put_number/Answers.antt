-- `text::put_number` meets its contract: the number taken apart. Assumes nothing.
use Rattle.text.specs.Writing.{put_whole, put_number}
use mir.ValLaws.{to_z-of_z}
use mir.Syntax.{w64}
use mathlib.Core.Path.{sym, ap, ◌∙◌}
use Rattle.text.proofs.put_number.Goals as goal

pub returns-in-None : goal.returns-in-None
returns-in-None c = let a = c.args in c.put_x.ensures ∙ sym (ap (put_number a.width a.room.now) c.in-None.is)

pub returns-in-Some : goal.returns-in-Some
returns-in-Some c =
    let a = c.args in
    let z = to_z-of_z w64 c.in-Some.z (record { sfits = c.in-Some.known_told-1-own.given.0.1 }) in
    c.put_whole.ensures ∙ ap (put_whole a.room.now a.width) z ∙ sym (ap (put_number a.width a.room.now) c.in-Some.is)
