-- `rewrite::lines::is_agreed` meets its contract: the two values stand where the line does. Assumes nothing.
use Prim.Native.Nat.{◌+◌, ◌≤◌}
use native.Mathlib.Omega.{arith}
use mathlib.Core.Path.{◌≡◌}
use Rattle.mphr.specs.Layout.{width_of, line_start}
use Rattle.rewrite.proofs.LineLaws.{place_is, line_room}
use Rattle.rewrite.proofs.SumLaws.{agreed_at}
use Rattle.bytewise.proofs.CompareLaws.{same_parts}
use Rattle.rewrite.proofs.lines.is_agreed.Goals as goal
use Rattle.rewrite.proofs.lines.is_agreed.Goals.{In-Ok}

stands : (c : In-Ok) → (c.in-Ok.place.start ≡ line_start c.args.k) × (c.in-Ok.place.width ≡ width_of c.args.k)
stands c = place_is c.args.k _ _ c.requires.0 c.in-Ok.is c.field_place.ensures

room : (c : In-Ok) → c.in-Ok.place.start + 32 + c.in-Ok.place.width ≤ 3307
room c = omega (arith, (stands c).0, (stands c).1, line_room c.args.k c.requires.0)

pub overflow_add-place : goal.overflow_add-place
overflow_add-place c = omega (arith, room (goal.at.overflow_add-place c).In-Ok)

pub overflow_add-place-2 : goal.overflow_add-place-2
overflow_add-place-2 c = omega (arith, room (goal.at.overflow_add-place-2 c).In-Ok)

pub returns : goal.returns
returns c =
    agreed_at c.args.m.now c.args.n.now c.args.k _ _ (stands (goal.at.returns c).In-Ok).0 (stands (goal.at.returns c).In-Ok).1
    (same_parts (omega (arith, room (goal.at.returns c).In-Ok, c.requires.1)) (omega (arith, room (goal.at.returns c).In-Ok, c.requires.2)) c.is_same.ensures)
