-- `rewrite::lines::set_value` meets its contract: the line stands where `mphr` says. Assumes nothing.
use Prim.Native.Nat.{ℕ, ◌+◌}
use native.Mathlib.Omega.{arith}
use mathlib.Core.Path.{◌≡◌, ap, ◌∙◌}
use lib.ListN.{length, take, drop}
use lib.Seq.{sets}
use Rattle.mphr.specs.Layout.{line_start}
use Rattle.rewrite.proofs.LineLaws.{place_is, place_lost, line_room, whole_text}
use Rattle.rewrite.proofs.lines.set_value.Goals as goal
use Rattle.rewrite.proofs.lines.set_value.Goals.{In-Ok}

start_is : (c : In-Ok) → c.in-Ok.place.start ≡ line_start c.args.k
start_is c = (place_is c.args.k _ _ c.requires.0 c.in-Ok.is c.field_place.ensures).0

pub returns-in_default : goal.returns-in_default
returns-in_default c = absurd (place_lost c.args.k _ _ c.requires.0 c.in_default.is c.field_place.ensures)

pub overflow_add-place : goal.overflow_add-place
overflow_add-place c = omega (arith, start_is (goal.at.overflow_add-place c).In-Ok, line_room c.args.k c.requires.0)

pub copy-requires : goal.copy-requires
copy-requires c = (omega arith, omega (arith, start_is (goal.at.copy-requires c).In-Ok, line_room c.args.k c.requires.0, c.requires.1, c.requires.2))

pub returns : goal.returns
returns c =
    let v = c.args.value.now in
    c.copy.ensures
    ∙ ap (λ (n : ℕ). sets c.args.header.now (n + 32) (take (length v) (drop 0 v))) (start_is (goal.at.returns c).In-Ok)
    ∙ ap (sets c.args.header.now (line_start c.args.k + 32)) (whole_text v)
