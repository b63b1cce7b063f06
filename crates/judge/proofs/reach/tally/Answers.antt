-- `judge::reach::tally` meets its contract: the scan stands at q. Assumes nothing.
use Rattle.std.proofs.Common.{◌≡◌, ◌+◌, ◌≤◌, false, length, refl, ◌∙◌, subst, arith}
use Rattle.judge.specs.Table.{class_at, size_at}
use Rattle.judge.specs.Step.{any, Met, Missed, LookIs}
use Rattle.judge.specs.declared.pointers.Look.{Look}
use Rattle.judge.specs.declared.pointers.Look.TheVariants as K
use Rattle.judge.proofs.ScanLaws.{scan_room, scan_ipr, looking, less}
use Rattle.judge.proofs.PendingLaws.{walk_from, walk_on}
use Rattle.judge.proofs.reach.tally.Goals as goal
use Rattle.judge.proofs.reach.tally.Goals.{After-look_at, In-Miss, In-Found}

told : (c : After-look_at) (r : Look) → c.look_at.result ≡ r → LookIs c.args.s.now c.loop-q.q c.args.lo c.args.d any false r
told c r e = subst (LookIs c.args.s.now c.loop-q.q c.args.lo c.args.d any false) e c.look_at.ensures

room : (c : After-look_at) → (c.loop-q.q + size_at c.args.s.now c.loop-q.q ≤ c.args.end) × (20 ≤ size_at c.args.s.now c.loop-q.q) × (c.args.end ≤ length c.args.s.now)
room c = scan_room c.loop-q.invariant.1 c.loop-q-test.true

missed : (c : In-Miss) → Missed c.args.s.now c.loop-q.q c.args.lo c.args.d any
missed c = told (goal.at.In-Miss c).After-look_at K.Miss c.in-Miss.is

met : (c : In-Found) → Met c.args.s.now c.loop-q.q c.args.lo c.args.d any
met c = told (goal.at.In-Found c).After-look_at K.Found c.in-Found.is

-- a pointer has 27 bytes
wide : (c : After-look_at) → class_at c.args.s.now c.loop-q.q ≡ 3 → 27 ≡ size_at c.args.s.now c.loop-q.q
wide c o = scan_ipr c.loop-q.invariant.1 c.loop-q-test.true o

pub loop-q-init : goal.loop-q-init
loop-q-init c = (refl, walk_from c.requires.0)

pub look_at-requires : goal.look_at-requires
look_at-requires c = looking c.loop-q.invariant.1 c.loop-q-test.true

pub overflow_add-q : goal.overflow_add-q
overflow_add-q c = record { fits = omega (arith, room (goal.at.overflow_add-q c).After-look_at) }

pub word-q-requires : goal.word-q-requires
word-q-requires c = omega (arith, room (goal.at.word-q-requires c).After-look_at)

pub overflow_add-q-in-Pass : goal.overflow_add-q-in-Pass
overflow_add-q-in-Pass c = record { fits = omega (arith, room (goal.at.overflow_add-q-in-Pass c).After-look_at, c.word-q.ensures) }

pub loop-q-smaller-in-Pass : goal.loop-q-smaller-in-Pass
loop-q-smaller-in-Pass c = less c.loop-q-test.true (omega (arith, room (goal.at.loop-q-smaller-in-Pass c).After-look_at, c.word-q.ensures))

pub loop-q-preserved-in-Pass : goal.loop-q-preserved-in-Pass
loop-q-preserved-in-Pass c =
    let i = c.loop-q.invariant in
    (i.0, walk_on i.1 c.loop-q-test.true c.word-q.result c.word-q.ensures.0)

pub overflow_add-q-in-Miss : goal.overflow_add-q-in-Miss
overflow_add-q-in-Miss c = record { fits = omega (arith, room (goal.at.overflow_add-q-in-Miss c).After-look_at, wide (goal.at.overflow_add-q-in-Miss c).After-look_at (missed c).ipr) }

pub loop-q-smaller-in-Miss : goal.loop-q-smaller-in-Miss
loop-q-smaller-in-Miss c = less c.loop-q-test.true (omega arith)

pub loop-q-preserved-in-Miss : goal.loop-q-preserved-in-Miss
loop-q-preserved-in-Miss c =
    let i = c.loop-q.invariant in
    (i.0, walk_on i.1 c.loop-q-test.true 27 (wide (goal.at.loop-q-preserved-in-Miss c).After-look_at (missed c).ipr))

pub shape_of-parts-in-Stop : goal.shape_of-parts-in-Stop
shape_of-parts-in-Stop c = c.loop-q.invariant.0

pub overflow_add-q-in-Found : goal.overflow_add-q-in-Found
overflow_add-q-in-Found c = record { fits = omega (arith, room (goal.at.overflow_add-q-in-Found c).After-look_at) }

pub word-requires : goal.word-requires
word-requires c = omega (arith, room (goal.at.word-requires c).After-look_at, wide (goal.at.word-requires c).After-look_at (met (goal.at.word-requires c).In-Found).ipr)

pub overflow_sub-word : goal.overflow_sub-word
overflow_sub-word c = omega (arith, c.word.ensures, (met (goal.at.overflow_sub-word c).In-Found).above)

pub overflow_shr-word : goal.overflow_shr-word
overflow_shr-word c = omega (arith, c.requires.1)

pub overflow_add-q-in-Found-2 : goal.overflow_add-q-in-Found-2
overflow_add-q-in-Found-2 c = record { fits = omega (arith, room (goal.at.overflow_add-q-in-Found-2 c).After-look_at, wide (goal.at.overflow_add-q-in-Found-2 c).After-look_at (met (goal.at.overflow_add-q-in-Found-2 c).In-Found).ipr) }

pub loop-q-smaller : goal.loop-q-smaller
loop-q-smaller c = less c.loop-q-test.true (omega arith)

pub loop-q-preserved : goal.loop-q-preserved
loop-q-preserved c =
    let i = c.loop-q.invariant in
    (c.note.ensures ∙ i.0, walk_on i.1 c.loop-q-test.true 27 (wide (goal.at.loop-q-preserved c).After-look_at (met (goal.at.loop-q-preserved c).In-Found).ipr))

pub shape_of-parts : goal.shape_of-parts
shape_of-parts c = c.loop-q.invariant.0
