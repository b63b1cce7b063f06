-- `judge::arrival::walk_on` meets its contract: the invariant is what `Turn`, `Kept` and `HoldIs` say at each record; a turn, and then the run of
-- those like it by the law of runs. Assumes nothing.
use Rattle.std.proofs.Common.{◌≡◌, ℕ, ◌+◌, ◌-◌, ◌<◌, ◌≤◌, List, length, get_or, sym, refl, ap, ◌∙◌, subst, arith, get_or-set_same}
use Rattle.record.specs.Follow.{first_after, may_follow}
use Rattle.record.proofs.FollowLaws.{ruled}
use Rattle.judge.specs.Table.{Site, site, one_more}
use Rattle.judge.specs.Step.{Kept}
use Rattle.judge.specs.Turning.{Gone, Walking, TurnedIs}
use Rattle.judge.specs.Pending.{HoldIs}
use Rattle.judge.specs.Stretch.{Even, over, NotesAre, no_notes}
use Rattle.judge.specs.Profile as P
use Rattle.judge.specs.declared.stretch.Notes.{Notes}
use Rattle.judge.specs.declared.pointers.Pointers.{Pointers}
use Rattle.judge.specs.declared.arrival.Arrival.{Arrival}
use Rattle.judge.specs.declared.arrival.Passed.{Passed}
use Rattle.std.specs.declared.ops.ControlFlow.{ControlFlow}
use Rattle.std.specs.declared.ops.ControlFlow.TheVariants.{Break, Continue}
use Rattle.judge.proofs.JudgeLaws.{turn_first}
use Rattle.judge.proofs.TurnLaws.{kept_first, over_at}
use Rattle.judge.proofs.RunLaws.{run_le, run_within, run_tally, After, run_on}
use Rattle.judge.proofs.StretchLaws.{run_even, turn_even}
use Rattle.judge.proofs.EaseLaws.{later, none_held, due_at, kept_eased}
use Rattle.judge.proofs.arrival.walk_on.Goals as goal
use Rattle.judge.proofs.arrival.walk_on.Goals.{At-loop-at, After-ease-hold, After-turn, In-Continue, After-run_of-run, After-noted-notes}

abbrev a : At-loop-at → List ℕ
a c = c.args.s.now

abbrev d : At-loop-at → ℕ
d c = c.args.d

abbrev ts : At-loop-at → List ℕ
ts c = c.args.totals.now

walking : (c : At-loop-at) → Walking (a c) (ts c) (d c)
walking c = c.requires

abbrev x : At-loop-at → Site
x c = site c.loop-at.count c.loop-at.at c.loop-at.prev c.loop-at.tally

eased : (c : After-ease-hold) → Kept (a (goal.at.After-ease-hold c).At-loop-at) c.loop-at.at (due_at c.loop-at.w c.ease-hold.result.due)
eased c = kept_eased c.loop-at.invariant.1 c.ease-hold.ensures.calm

told : (c : After-turn) (r : ControlFlow Arrival Passed) → c.turn.result ≡ r → TurnedIs (a (goal.at.After-turn c).At-loop-at) (x (goal.at.After-turn c).At-loop-at) r
told c r e = subst (TurnedIs (a (goal.at.After-turn c).At-loop-at) (x (goal.at.After-turn c).At-loop-at)) e c.turn.ensures

-- where the turn goes on: the next start, the class and the pointers
abbrev to : In-Continue → ℕ
to c = c.in-Continue.passed.to

abbrev class : In-Continue → ℕ
class c = c.in-Continue.passed.class

abbrev pointers : In-Continue → Pointers
pointers c = c.in-Continue.passed.pointers

gone : (c : In-Continue) → Gone (a (goal.at.In-Continue c).At-loop-at) (x (goal.at.In-Continue c).At-loop-at) (to c) (class c) (pointers c)
gone c = told (goal.at.In-Continue c).After-turn (Continue c.in-Continue.passed) c.in-Continue.is

abbrev n : In-Continue → ℕ
n c = get_or c.loop-at.tally (class c) 0 + 1

below : (c : In-Continue) → class c < length c.loop-at.tally
below c = omega (arith, (gone c).eight, c.loop-at.invariant.0.nine)

reached : (c : In-Continue) → n c ≤ get_or (ts (goal.at.In-Continue c).At-loop-at) (class c) 0
reached c = omega (arith, (gone c).fewer, (walking (goal.at.In-Continue c).At-loop-at).totals.same (class c) (gone c).eight)

ran : (c : After-run_of-run) → After (a (goal.at.After-run_of-run c).At-loop-at) (c.loop-at.count + 1) (class (goal.at.After-run_of-run c).In-Continue) (one_more c.loop-at.tally (class (goal.at.After-run_of-run c).In-Continue)) (pointers (goal.at.After-run_of-run c).In-Continue) c.run_of-run.result.count c.run_of-run.result.end
ran c =
    let y = walking (goal.at.After-run_of-run c).At-loop-at in
    run_on y.d_is y.small y.totals (gone (goal.at.After-run_of-run c).In-Continue).turn (gone (goal.at.After-run_of-run c).In-Continue).kept (omega (arith, reached (goal.at.After-run_of-run c).In-Continue, get_or-set_same c.loop-at.tally (class (goal.at.After-run_of-run c).In-Continue) (n (goal.at.After-run_of-run c).In-Continue) 0 (below (goal.at.After-run_of-run c).In-Continue))) (c.run_of-run.ensures c.loop-at.invariant.2)

counted : (c : After-run_of-run) → (to (goal.at.After-run_of-run c).In-Continue + c.run_of-run.result.count ≤ c.run_of-run.result.end) × (c.run_of-run.result.end ≤ d (goal.at.After-run_of-run c).At-loop-at) × (n (goal.at.After-run_of-run c).In-Continue + c.run_of-run.result.count ≤ get_or (ts (goal.at.After-run_of-run c).At-loop-at) (class (goal.at.After-run_of-run c).In-Continue) 0)
counted c =
    let r = c.run_of-run.ensures c.loop-at.invariant.2 in
    let l = run_le r in
    (omega (arith, l.0), run_within r (omega (arith, (gone (goal.at.After-run_of-run c).In-Continue).turn.inside, walking (goal.at.After-run_of-run c).At-loop-at)), omega (arith, l.1, reached (goal.at.After-run_of-run c).In-Continue))

evenly : (f : After-run_of-run) → Even (a (goal.at.After-run_of-run f).At-loop-at) (to (goal.at.After-run_of-run f).In-Continue - f.loop-at.at) f.loop-at.at f.run_of-run.result.end
evenly f =
    let g = gone (goal.at.After-run_of-run f).In-Continue in
    turn_even (omega (arith, g.to_is)) (omega (arith, g.further)) (run_even (f.run_of-run.ensures f.loop-at.invariant.2))

grows : (c : After-noted-notes) → NotesAre (a (goal.at.After-noted-notes c).At-loop-at) c.noted-notes.result
grows c =
    c.noted-notes.ensures.even (a (goal.at.After-noted-notes c).At-loop-at) c.loop-at.invariant.5 (evenly (goal.at.After-noted-notes c).After-run_of-run)

-- no record yet
none_yet : {a : List ℕ} {i : ℕ} {r : Notes} → r ≡ no_notes i → NotesAre a r
none_yet e = rw e (record { last = over; longest = over })

counts : {i : ℕ} {r : Notes} → r ≡ no_notes i → r.last.count ≡ 0
counts e = ap (λ (r : Notes). r.last.count) e

pub loop-at-init : goal.loop-at-init
unfolding first_after may_follow
loop-at-init c =
    let y = c.requires in (
      turn_first y.begun.clean y.begun.come (λ h. let n = y.not_part (omega (arith, y.d_is)) in omega (arith, y.d_is)),
      subst (Kept c.args.s.now 3307) (sym c.no_pointers-w.ensures) (kept_first y.begun.come),
      ruled _ tt,
      subst (HoldIs c.args.s.now 3307 c.args.held.now) (sym c.no_hold-hold.ensures) none_held,
      refl,
      none_yet c.no_notes-notes.ensures,
      omega (arith, counts c.no_notes-notes.ensures),
      P.over,
    )

pub ease-hold-requires : goal.ease-hold-requires
ease-hold-requires c =
    (c.loop-at.invariant.1, c.loop-at.invariant.3, (walking (goal.at.ease-hold-requires c).At-loop-at).d_is, c.loop-at-test.true, (walking (goal.at.ease-hold-requires c).At-loop-at).small)

pub turn-requires : goal.turn-requires
turn-requires c =
    let y = walking (goal.at.turn-requires c).At-loop-at in
    (record { d_is = y.d_is; small = y.small; room = c.loop-at-test.true; totals = y.totals; turn = c.loop-at.invariant.0; kept = eased (goal.at.turn-requires c).After-ease-hold }, c.loop-at.invariant.2)

pub returns-in-Break : goal.returns-in-Break
returns-in-Break c =
    let i = c.loop-at.invariant in
    record { said = told (goal.at.returns-in-Break c).After-turn (Break c.in-Break.answer) c.in-Break.is; even = i.5.longest; meets = i.7 }

pub overflow_cast-k : goal.overflow_cast-k
overflow_cast-k c = record { fits = omega (arith, (told (goal.at.overflow_cast-k c).After-turn (Continue c.in-Continue.passed) c.in-Continue.is).eight) }

pub offset_bounds-tally-k : goal.offset_bounds-tally-k
offset_bounds-tally-k c = omega (arith, (told (goal.at.offset_bounds-tally-k c).After-turn (Continue c.in-Continue.passed) c.in-Continue.is).eight)

pub bounds-tally-k : goal.bounds-tally-k
bounds-tally-k c = omega (arith, (told (goal.at.bounds-tally-k c).After-turn (Continue c.in-Continue.passed) c.in-Continue.is).eight)

pub overflow_add-n : goal.overflow_add-n
overflow_add-n c = let i = (goal.at.overflow_add-n c).In-Continue in record { fits = omega (arith, (gone i).fewer, (walking (goal.at.overflow_add-n c).At-loop-at).totals.small (class i) (gone i).eight) }

pub overflow_sub-size : goal.overflow_sub-size
overflow_sub-size c = omega (arith, (gone (goal.at.overflow_sub-size c).In-Continue).further)

pub offset_bounds-totals-k : goal.offset_bounds-totals-k
offset_bounds-totals-k c = omega (arith, (gone (goal.at.offset_bounds-totals-k c).In-Continue).eight)

pub bounds-totals-k : goal.bounds-totals-k
bounds-totals-k c = omega (arith, (gone (goal.at.bounds-totals-k c).In-Continue).eight, (walking (goal.at.bounds-totals-k c).At-loop-at).totals.nine)

pub overflow_sub-totals : goal.overflow_sub-totals
overflow_sub-totals c = reached (goal.at.overflow_sub-totals c).In-Continue

pub overflow_add-tally : goal.overflow_add-tally
overflow_add-tally c = record { fits = omega (arith, (counted (goal.at.overflow_add-tally c).After-run_of-run).2, (walking (goal.at.overflow_add-tally c).At-loop-at).totals.same (class (goal.at.overflow_add-tally c).In-Continue) (gone (goal.at.overflow_add-tally c).In-Continue).eight, (walking (goal.at.overflow_add-tally c).At-loop-at).totals.small (class (goal.at.overflow_add-tally c).In-Continue) (gone (goal.at.overflow_add-tally c).In-Continue).eight) }

pub offset_bounds-tally-k-in-Continue : goal.offset_bounds-tally-k-in-Continue
offset_bounds-tally-k-in-Continue c = omega (arith, (gone (goal.at.offset_bounds-tally-k-in-Continue c).In-Continue).eight)

pub bounds-tally-k-in-Continue : goal.bounds-tally-k-in-Continue
bounds-tally-k-in-Continue c = omega (arith, (gone (goal.at.bounds-tally-k-in-Continue c).In-Continue).eight)

pub overflow_add-count : goal.overflow_add-count
overflow_add-count c = record { fits = omega (arith, counted (goal.at.overflow_add-count c).After-run_of-run, (walking (goal.at.overflow_add-count c).At-loop-at).small) }

pub overflow_add-count-in-Continue : goal.overflow_add-count-in-Continue
overflow_add-count-in-Continue c = let i = c.loop-at.invariant.0 in record { fits = omega (arith, counted (goal.at.overflow_add-count-in-Continue c).After-run_of-run, (gone (goal.at.overflow_add-count-in-Continue c).In-Continue).further, i.counted, (walking (goal.at.overflow_add-count-in-Continue c).At-loop-at).small) }

pub overflow_add-run : goal.overflow_add-run
overflow_add-run c = record { fits = omega (arith, counted (goal.at.overflow_add-run c).After-run_of-run, (walking (goal.at.overflow_add-run c).At-loop-at).small) }

pub noted-notes-requires : goal.noted-notes-requires
noted-notes-requires c = let i = c.loop-at.invariant in omega (arith, i.6, counted (goal.at.noted-notes-requires c).After-run_of-run, i.0.inside, walking (goal.at.noted-notes-requires c).At-loop-at)

pub met_on-met-requires : goal.met_on-met-requires
met_on-met-requires c =
    (c.loop-at.invariant.7, record { even = evenly (goal.at.met_on-met-requires c).After-run_of-run; least = omega (arith, (gone (goal.at.met_on-met-requires c).In-Continue).further); come = (ran (goal.at.met_on-met-requires c).After-run_of-run).0.come })

pub loop-at-smaller : goal.loop-at-smaller
loop-at-smaller c = omega (arith, (counted (goal.at.loop-at-smaller c).After-run_of-run).0, (gone (goal.at.loop-at-smaller c).In-Continue).further, c.loop-at-test.true)

pub loop-at-preserved : goal.loop-at-preserved
loop-at-preserved c =
    let r = c.run_of-run.result in
    let i : c.loop-at.count + (1 + r.count) ≡ c.loop-at.count + 1 + r.count = omega arith in
    let v = c.loop-at.invariant in (
      rw (i, ← run_tally c.loop-at.tally (class (goal.at.loop-at-preserved c).In-Continue) r.count (below (goal.at.loop-at-preserved c).In-Continue)) (ran (goal.at.loop-at-preserved c).After-run_of-run).0,
      (ran (goal.at.loop-at-preserved c).After-run_of-run).1,
      v.2,
      later {i = to (goal.at.loop-at-preserved c).In-Continue} (omega (arith, (counted (goal.at.loop-at-preserved c).After-run_of-run).0)) (rw (gone (goal.at.loop-at-preserved c).In-Continue).to_is c.ease-hold.ensures.hold),
      c.ease-hold.ensures.same ∙ v.4,
      grows (goal.at.loop-at-preserved c).After-noted-notes,
      omega (arith, c.noted-notes.ensures.counted, v.6, (counted (goal.at.loop-at-preserved c).After-run_of-run).0, (gone (goal.at.loop-at-preserved c).In-Continue).further),
      c.met_on-met.ensures,
    )

pub ended-requires : goal.ended-requires
ended-requires c =
    over_at (walking (goal.at.ended-requires c).At-loop-at).d_is (omega (arith, c.loop-at-test.false, c.loop-at.invariant.0.inside, walking (goal.at.ended-requires c).At-loop-at)) (walking (goal.at.ended-requires c).At-loop-at).totals c.loop-at.invariant.0

pub returns : goal.returns
returns c = let i = c.loop-at.invariant in record { said = c.ended.ensures; even = i.5.longest; meets = i.7 }
