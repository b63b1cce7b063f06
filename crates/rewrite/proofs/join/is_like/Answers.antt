-- `rewrite::join::is_like` meets its contract: each way out is a law of JoinPlanLaws. Assumes nothing.
use Prim.Native.Nat.{◌+◌, ◌≤◌}
use native.Mathlib.Omega.{arith}
use lib.ListN.{length, take, drop}
use Rattle.bytewise.proofs.CompareLaws.{same_parts}
use Rattle.rewrite.specs.Comparing.{SeenIs}
use Rattle.rewrite.proofs.StretchLaws.{sections_come}
use Rattle.rewrite.proofs.UntimedLaws.{seen_whole, seen_untimed}
use Rattle.rewrite.proofs.JoinPlanLaws.{like_front, like_global, front_seeable, global_seeable, like_no, like_last}
use Rattle.rewrite.proofs.join.is_like.Goals as goal
use Rattle.rewrite.proofs.join.is_like.Goals.{Start, After-is_same, then-f-g-via-then-f-g, then-f-g-via-else-f-g+then-f-g-2}

first-come : (c : Start) → 3307 + c.args.f.sphr + c.args.f.ipr + c.args.f.global ≤ length c.args.first.now
first-come c = let p = c.requires in omega (arith, sections_come p.two.first p.first)

second-come : (c : Start) → 3307 + c.args.g.sphr + c.args.g.ipr + c.args.g.global ≤ length c.args.second.now
second-come c = let p = c.requires in omega (arith, sections_come p.two.second p.second)

low-1 : (c : Start) → 3307 + c.args.f.sphr + c.args.f.ipr ≤ 2147483647
low-1 c = let t = c.requires.two.first in omega (arith, first-come c, t.come, t.header.most)

low-2 : (c : Start) → 3307 + c.args.g.sphr + c.args.g.ipr ≤ 2147483647
low-2 c = let t = c.requires.two.second in omega (arith, second-come c, t.come, t.header.most)

pub returns-then-f-g : goal.returns-then-f-g
returns-then-f-g c = elim c.then-f-g.branch [
  | then-f-g-via-then-f-g w ↦ like_front c.requires c.args.same w.if-f-g.true
  | then-f-g-via-else-f-g+then-f-g-2 w ↦ like_global c.requires c.args.same w.if-f-g-2.true
]

pub overflow_add-from : goal.overflow_add-from
overflow_add-from c = omega (arith, low-1 (goal.at.overflow_add-from c).Start)

pub overflow_add-from-2 : goal.overflow_add-from-2
overflow_add-from-2 c = omega (arith, low-1 (goal.at.overflow_add-from-2 c).Start)

pub overflow_add-at : goal.overflow_add-at
overflow_add-at c = omega (arith, low-2 (goal.at.overflow_add-at c).Start)

pub overflow_add-at-2 : goal.overflow_add-at-2
overflow_add-at-2 c = omega (arith, low-2 (goal.at.overflow_add-at-2 c).Start)

front_bytes : (c : After-is_same) → SeenIs c.args.same (take c.args.f.sphr (drop 3307 c.args.first.now)) (take c.args.f.sphr (drop 3307 c.args.second.now)) c.is_same.result
front_bytes c =
    let a = c.args in
    let s = (goal.at.After-is_same c).Start in
    seen_whole a.first.now a.second.now 3307 3307 a.f.sphr a.same c.if-same.true
    (same_parts (omega (arith, first-come s)) (omega (arith, second-come s, c.if-f-g.false)) c.is_same.ensures)

pub returns-then-is_same : goal.returns-then-is_same
returns-then-is_same c =
    let a = c.args in
    let s = (goal.at.returns-then-is_same c).Start in
    let d = same_parts (omega (arith, first-come s)) (omega (arith, second-come s, c.if-f-g-2.false)) c.is_same-then-is_same.ensures in
    like_last c.requires a.same c.if-f-g.false c.if-f-g-2.false (front_bytes (goal.at.returns-then-is_same c).After-is_same) c.if-is_same.true
    (seen_whole a.first.now a.second.now (3307 + a.f.sphr + a.f.ipr) (3307 + a.g.sphr + a.g.ipr) a.f.global a.same c.if-same.true d)

pub returns-else-is_same : goal.returns-else-is_same
returns-else-is_same c = rw c.if-is_same.false (like_no c.requires c.args.same c.if-f-g.false (front_bytes (goal.at.returns-else-is_same c).After-is_same) c.if-is_same.false)

-- and but for the times
pub is_untimed-requires : goal.is_untimed-requires
is_untimed-requires c = front_seeable c.requires c.if-f-g.false

pub is_untimed-requires-then-is_untimed : goal.is_untimed-requires-then-is_untimed
is_untimed-requires-then-is_untimed c = global_seeable c.requires c.if-f-g-2.false

pub returns-then-is_untimed : goal.returns-then-is_untimed
returns-then-is_untimed c =
    let same = c.args.same in
    like_last c.requires same c.if-f-g.false c.if-f-g-2.false (seen_untimed same c.if-same.false c.is_untimed.ensures) c.if-is_untimed.true
    (seen_untimed same c.if-same.false c.is_untimed-then-is_untimed.ensures)

pub returns-else-is_untimed : goal.returns-else-is_untimed
returns-else-is_untimed c =
    let same = c.args.same in
    rw c.if-is_untimed.false (like_no c.requires same c.if-f-g.false (seen_untimed same c.if-same.false c.is_untimed.ensures) c.if-is_untimed.false)
