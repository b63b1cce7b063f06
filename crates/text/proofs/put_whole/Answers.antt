-- `text::put_whole` meets its contract: the last digit, then the rest. Assumes nothing.
use Rattle.text.proofs.Laws.{below_is, whole_put}
use Rattle.meter.proofs.Signs.{tested}
use mir.ValLaws.{to_z-of_z}
use mir.Syntax.{w64}
use lib.ListN.{length-set}
use lib.IntN.{nat_abs}
use native.Mathlib.Omega.{arith}
use mathlib.Core.Path.{refl, sym, ap, ◌∙◌}
use Rattle.text.proofs.put_whole.Goals as goal

pub put_rest-requires : goal.put_rest-requires
put_rest-requires c = simp length-set (omega arith)

pub shape_of-room : goal.shape_of-room
shape_of-room c = c.room-1.given ∙ simp length-set

pub returns : goal.returns
returns c =
    let a = c.args in
    whole_put a.room.now a.width a.z c.unsigned_abs-size.result _ _ (c.unsigned_abs-size.ensures.value ∙ ap nat_abs (to_z-of_z w64 a.z c.ranges.z)) (sym (tested a.z c.ranges.z _ refl) ∙ below_is a.z) c.put_rest.ensures
