-- `watch::walk` meets its contract. The invariant: the state is sane, and where the walk over the fed bytes stood at the first record, it stands
-- at this one; each way out of a turn by its law (WatchLaws). Assumes nothing.
use Prim.Native.Nat.{ℕ, ◌+◌, ◌≤◌}
use native.Mathlib.Omega.{arith}
use mathlib.Core.Path.{◌≡◌, refl, subst}
use mathlib.Core.List.{List}
use lib.ListN.{length}
use Rattle.judge.proofs.RankLaws.{class_most}
use Rattle.record.specs.Follow.{first_after, may_follow}
use Rattle.record.proofs.FollowLaws.{ruled}
use Rattle.watch.specs.Stands.{laid, site_of}
use Rattle.watch.specs.Turning.{TurnIs, TurnedIs, SafeTurn, Walking}
use Rattle.watch.specs.declared.Watch.{Watch}
use Rattle.watch.specs.declared.Mark.{Mark}
use Rattle.watch.specs.declared.Turned.{Turned}
use Rattle.watch.specs.declared.Turned.TheVariants as T
use Rattle.watch.proofs.WatchLaws.{same_right, read, wait_right, rest_right, refuse_right, pass_on, point_on, sane_pass, sane_point}
use Rattle.watch.proofs.walk.Goals as goal
use Rattle.watch.proofs.walk.Goals.{After-turn, In-Pass, In-Point}

abbrev Vw : After-turn → Mark
Vw c = c.loop-v.v

abbrev Ts : After-turn → List ℕ
Ts c = c.args.totals.now

-- the watch at the turn's start, whatever its main header
abbrev at_turn : After-turn → List ℕ → Watch
at_turn c hs = laid (Vw c) (Ts c) c.loop-v.tally c.loop-v.starts c.loop-v.targets c.loop-v.kinds hs c.loop-v.under

abbrev h : After-turn → List ℕ
h c = c.fill-have.new.under

abbrev len : After-turn → ℕ
len c = c.args.base + length c.args.part.now

abbrev Is : (c : After-turn) → Turned → Type 0
Is c r = TurnIs (h c) (Ts c) c.loop-v.tally c.loop-v.starts c.loop-v.targets c.loop-v.kinds c.fill-have.result (len c) (Vw c).d (Vw c).at (Vw c).due (Vw c).prev r

told : (c : After-turn) (r : Turned) → c.turn.result ≡ r → Is c r
told c r e = subst (Is c) e c.turn.ensures

-- what is right of the turn, for the walk over b
rightly : (c : After-turn) (r : Turned) → c.turn.result ≡ r → (hs b : List ℕ) (w : Walking b c.args.part.now c.args.base (at_turn c hs)) → TurnedIs b (site_of (at_turn c hs)) (Vw c).d (Ts c) c.loop-v.starts c.loop-v.targets c.loop-v.kinds r
rightly c r e hs b w = (told c r e).right b (Vw c).count (read w c.fill-have.ensures c.ahead.ensures.0 c.ahead.ensures.1 c.loop-v-test.true refl)

safe-pass : (c : In-Pass) → SafeTurn (Ts (goal.at.In-Pass c).After-turn) c.loop-v.tally (Vw (goal.at.In-Pass c).After-turn).d (Vw (goal.at.In-Pass c).After-turn).at (T.Pass c.in-Pass.to c.in-Pass.class c.in-Pass.due)
safe-pass c = (told (goal.at.In-Pass c).After-turn (T.Pass c.in-Pass.to c.in-Pass.class c.in-Pass.due) c.in-Pass.is).safe

safe-point : (c : In-Point) → SafeTurn (Ts (goal.at.In-Point c).After-turn) c.loop-v.tally (Vw (goal.at.In-Point c).After-turn).d (Vw (goal.at.In-Point c).After-turn).at (T.Point c.in-Point.to c.in-Point.target c.in-Point.kind c.in-Point.due)
safe-point c = (told (goal.at.In-Point c).After-turn (T.Point c.in-Point.to c.in-Point.target c.in-Point.kind c.in-Point.due) c.in-Point.is).safe

eight : (c : In-Pass) → c.in-Pass.class ≤ 8
eight c = (class_most c.in-Pass.class (safe-pass c).2).1

pub loop-v-init : goal.loop-v-init
unfolding first_after may_follow
loop-v-init c = (c.requires.0, λ hs b k. k, ruled _ tt)

pub overflow_add-at : goal.overflow_add-at
overflow_add-at c = record { fits = omega (arith, c.loop-v.invariant.0.inside, c.loop-v.invariant.0.small, c.loop-v.invariant.0.most) }

pub fill-have-requires : goal.fill-have-requires
fill-have-requires c = c.loop-v.invariant.0.most

pub turn-requires : goal.turn-requires
turn-requires c = let s = c.loop-v.invariant.0 in (s.inside, s.small, s.few, s.known, c.loop-v.invariant.2)

pub returns-in-Wait : goal.returns-in-Wait
returns-in-Wait c =
    λ hs b k. let w = c.loop-v.invariant.1 hs b k in
    same_right c.wait.ensures.0 c.wait.ensures.1 (wait_right w c.fill-have.ensures c.ahead.ensures.0 c.ahead.ensures.1 refl (rightly (goal.at.returns-in-Wait c).After-turn T.Wait c.in-Wait.is hs b w))

pub returns-in-Refuse : goal.returns-in-Refuse
returns-in-Refuse c = let r = T.Refuse c.in-Refuse.r in λ hs b k. refuse_right (c.loop-v.invariant.1 hs b k) c.fill-have.ensures c.ahead.ensures.0 c.ahead.ensures.1 (told (goal.at.returns-in-Refuse c).After-turn r c.in-Refuse.is).safe (rightly (goal.at.returns-in-Refuse c).After-turn r c.in-Refuse.is hs b (c.loop-v.invariant.1 hs b k)) c.refuse.ensures.0 c.refuse.ensures.1

pub overflow_cast-k : goal.overflow_cast-k
overflow_cast-k c = record { fits = omega (arith, eight c) }

pub offset_bounds-tally-k : goal.offset_bounds-tally-k
offset_bounds-tally-k c = omega (arith, eight (goal.at.offset_bounds-tally-k c).In-Pass)

pub bounds-tally-k : goal.bounds-tally-k
bounds-tally-k c = omega (arith, eight (goal.at.bounds-tally-k c).In-Pass)

pub offset_bounds-totals-k : goal.offset_bounds-totals-k
offset_bounds-totals-k c = omega (arith, eight c)

pub bounds-totals-k : goal.bounds-totals-k
bounds-totals-k c = omega (arith, eight (goal.at.bounds-totals-k c).In-Pass)

pub overflow_sub-most : goal.overflow_sub-most
overflow_sub-most c = omega (arith, (safe-pass (goal.at.overflow_sub-most c).In-Pass).4)

pub overflow_sub-most-in-Pass : goal.overflow_sub-most-in-Pass
overflow_sub-most-in-Pass c = omega (arith, (safe-pass (goal.at.overflow_sub-most-in-Pass c).In-Pass).4)

pub overflow_sub-to : goal.overflow_sub-to
overflow_sub-to c = omega (arith, (safe-pass (goal.at.overflow_sub-to c).In-Pass).0)

pub run_in-run-requires : goal.run_in-run-requires
run_in-run-requires c = ((safe-pass (goal.at.run_in-run-requires c).In-Pass).1, c.loop-v.invariant.0.small, c.loop-v.invariant.2)

pub overflow_add-passed : goal.overflow_add-passed
overflow_add-passed c = record { fits = omega (arith, c.run_in-run.ensures.counted, c.run_in-run.ensures.inside, c.loop-v.invariant.0.small) }

pub overflow_add-tally : goal.overflow_add-tally
overflow_add-tally c = record { fits = omega (arith, c.run_in-run.ensures.few, (safe-pass (goal.at.overflow_add-tally c).In-Pass).4) }

pub offset_bounds-tally-k-in-Pass : goal.offset_bounds-tally-k-in-Pass
offset_bounds-tally-k-in-Pass c = omega (arith, eight (goal.at.offset_bounds-tally-k-in-Pass c).In-Pass)

pub bounds-tally-k-in-Pass : goal.bounds-tally-k-in-Pass
bounds-tally-k-in-Pass c = omega (arith, eight (goal.at.bounds-tally-k-in-Pass c).In-Pass)

pub overflow_add-v : goal.overflow_add-v
overflow_add-v c = record { fits = omega (arith, c.run_in-run.ensures.counted, c.run_in-run.ensures.inside, (safe-pass (goal.at.overflow_add-v c).In-Pass).0, c.loop-v.invariant.0.counted, c.loop-v.invariant.0.small) }

pub loop-v-smaller-in-Pass : goal.loop-v-smaller-in-Pass
loop-v-smaller-in-Pass c = let s = safe-pass (goal.at.loop-v-smaller-in-Pass c).In-Pass in omega (arith, c.run_in-run.ensures.counted, s.0, s.1)

pub loop-v-preserved-in-Pass : goal.loop-v-preserved-in-Pass
loop-v-preserved-in-Pass c =
    let r = T.Pass c.in-Pass.to c.in-Pass.class c.in-Pass.due in
    let s = safe-pass (goal.at.loop-v-preserved-in-Pass c).In-Pass in
    let y = c.run_in-run.ensures in (
      sane_pass c.loop-v.v c.loop-v.tally _ (1 + c.run_in-run.result.count) c.loop-v.invariant.0 (omega (arith, y.counted, s.0)) y.inside s.2 s.3,
      λ hs b q. let w = c.loop-v.invariant.1 hs b q in
          pass_on w c.fill-have.ensures c.ahead.ensures.0 c.ahead.ensures.1 c.in-Pass.class refl (omega (arith, s.4)) s.0 (rightly (goal.at.loop-v-preserved-in-Pass c).After-turn r c.in-Pass.is hs b w) (y.right b w.part),
      c.loop-v.invariant.2,
    )

pub overflow_cast-starts : goal.overflow_cast-starts
overflow_cast-starts c = record { fits = omega (arith, c.loop-v.invariant.0.inside, c.loop-v.invariant.0.small) }

pub offset_bounds-starts-n : goal.offset_bounds-starts-n
offset_bounds-starts-n c = let s = safe-point (goal.at.offset_bounds-starts-n c).In-Point in omega (arith, s.2)

pub bounds-starts-n : goal.bounds-starts-n
bounds-starts-n c = let s = safe-point (goal.at.bounds-starts-n c).In-Point in omega (arith, s.2)

pub overflow_cast-targets : goal.overflow_cast-targets
overflow_cast-targets c = let s = safe-point (goal.at.overflow_cast-targets c).In-Point in record { fits = omega (arith, s.4) }

pub offset_bounds-targets-n : goal.offset_bounds-targets-n
offset_bounds-targets-n c = let s = safe-point (goal.at.offset_bounds-targets-n c).In-Point in omega (arith, s.2)

pub bounds-targets-n : goal.bounds-targets-n
bounds-targets-n c = let s = safe-point (goal.at.bounds-targets-n c).In-Point in omega (arith, s.2)

pub overflow_cast-kinds : goal.overflow_cast-kinds
overflow_cast-kinds c = let s = safe-point (goal.at.overflow_cast-kinds c).In-Point in record { fits = omega (arith, s.5) }

pub offset_bounds-kinds-n : goal.offset_bounds-kinds-n
offset_bounds-kinds-n c = let s = safe-point (goal.at.offset_bounds-kinds-n c).In-Point in omega (arith, s.2)

pub bounds-kinds-n : goal.bounds-kinds-n
bounds-kinds-n c = let s = safe-point (goal.at.bounds-kinds-n c).In-Point in omega (arith, s.2)

pub overflow_add-tally-in-Point : goal.overflow_add-tally-in-Point
overflow_add-tally-in-Point c = let s = safe-point (goal.at.overflow_add-tally-in-Point c).In-Point in record { fits = omega (arith, s.2) }

pub overflow_add-v-in-Point : goal.overflow_add-v-in-Point
overflow_add-v-in-Point c = record { fits = omega (arith, c.loop-v.invariant.0.counted, c.loop-v.invariant.0.inside, c.loop-v.invariant.0.small) }

pub loop-v-smaller : goal.loop-v-smaller
loop-v-smaller c = let s = safe-point (goal.at.loop-v-smaller c).In-Point in omega (arith, s.0, s.1)

pub loop-v-preserved : goal.loop-v-preserved
loop-v-preserved c = let r = T.Point c.in-Point.to c.in-Point.target c.in-Point.kind c.in-Point.due in let s = safe-point (goal.at.loop-v-preserved c).In-Point in (sane_point c.loop-v.v c.loop-v.tally c.loop-v.invariant.0 s.0 s.1 s.2, λ hs b k. point_on (c.loop-v.invariant.1 hs b k) c.fill-have.ensures c.ahead.ensures.0 c.ahead.ensures.1 c.in-Point.target c.in-Point.kind s.0 (rightly (goal.at.loop-v-preserved c).After-turn r c.in-Point.is hs b (c.loop-v.invariant.1 hs b k)), c.loop-v.invariant.2)

pub returns-in-Rest : goal.returns-in-Rest
returns-in-Rest c =
    let r = T.Rest c.in-Rest.to in
    let y = (told (goal.at.returns-in-Rest c).After-turn r c.in-Rest.is).rests in
    λ hs b k. let w = c.loop-v.invariant.1 hs b k in
    same_right c.wait-in-Rest.ensures.0 c.wait-in-Rest.ensures.1
    (rest_right w c.fill-have.ensures c.ahead.ensures.0 c.ahead.ensures.1 c.loop-v-test.true refl (rightly (goal.at.returns-in-Rest c).After-turn r c.in-Rest.is hs b w) y.0 y.1 c.until.ensures.0 c.until.ensures.1)

pub returns : goal.returns
returns c =
    let s = c.loop-v.invariant.0 in
    λ hs b k. c.end.ensures b _ _ _ _ _ hs _ (c.loop-v.invariant.1 hs b k) (omega (arith, s.inside, c.loop-v-test.false)) s.most refl
