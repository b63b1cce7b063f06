-- `judge::pending::gather` meets its contract: those before q are held. Assumes nothing.
use Rattle.std.proofs.Common.{◌≡◌, ◌+◌, ◌≤◌, false, length, refl, ◌∙◌, subst, zero-le, arith}
use Rattle.judge.specs.Table.{class_at, size_at}
use Rattle.judge.specs.Step.{any, Met, Missed, LookIs}
use Rattle.judge.specs.declared.pointers.Look.{Look}
use Rattle.judge.specs.declared.pointers.Look.TheVariants as K
use Rattle.judge.proofs.ScanLaws.{scan_room, scan_ipr, looking, less}
use Rattle.judge.proofs.PendingLaws.{walk_from, walk_on, got_none, got_all, got_pass, got_put}
use Rattle.judge.proofs.pending.gather.Goals as goal
use Rattle.judge.proofs.pending.gather.Goals.{After-look_at, In-Miss, In-Found, After-put-n}

told : (c : After-look_at) (r : Look) → c.look_at.result ≡ r → LookIs c.args.s.now c.loop-q.q c.args.lo c.args.hi any false r
told c r e = subst (LookIs c.args.s.now c.loop-q.q c.args.lo c.args.hi any false) e c.look_at.ensures

room : (c : After-look_at) → (c.loop-q.q + size_at c.args.s.now c.loop-q.q ≤ c.args.end) × (20 ≤ size_at c.args.s.now c.loop-q.q) × (c.args.end ≤ length c.args.s.now)
room c = scan_room c.loop-q.invariant.2 c.loop-q-test.true

missed : (c : In-Miss) → Missed c.args.s.now c.loop-q.q c.args.lo c.args.hi any
missed c = told (goal.at.In-Miss c).After-look_at K.Miss c.in-Miss.is

met : (c : In-Found) → Met c.args.s.now c.loop-q.q c.args.lo c.args.hi any
met c = told (goal.at.In-Found c).After-look_at K.Found c.in-Found.is

-- a pointer has 27 bytes
wide : (c : After-look_at) → class_at c.args.s.now c.loop-q.q ≡ 3 → 27 ≡ size_at c.args.s.now c.loop-q.q
wide c o = scan_ipr c.loop-q.invariant.2 c.loop-q-test.true o

pub loop-q-init : goal.loop-q-init
loop-q-init c = (zero-le, refl, walk_from c.requires, got_none c.requires)

pub look_at-requires : goal.look_at-requires
look_at-requires c = looking c.loop-q.invariant.2 c.loop-q-test.true

pub overflow_add-q : goal.overflow_add-q
overflow_add-q c = record { fits = omega (arith, room (goal.at.overflow_add-q c).After-look_at) }

pub word-q-requires : goal.word-q-requires
word-q-requires c = omega (arith, room (goal.at.word-q-requires c).After-look_at)

pub overflow_add-q-in-Pass : goal.overflow_add-q-in-Pass
overflow_add-q-in-Pass c = record { fits = omega (arith, room (goal.at.overflow_add-q-in-Pass c).After-look_at, c.word-q.ensures) }

pub loop-q-smaller-in-Pass : goal.loop-q-smaller-in-Pass
loop-q-smaller-in-Pass c = less c.loop-q-test.true (omega (arith, room (goal.at.loop-q-smaller-in-Pass c).After-look_at, c.word-q.ensures))

pub loop-q-preserved-in-Pass : goal.loop-q-preserved-in-Pass
loop-q-preserved-in-Pass c =
    let i = c.loop-q.invariant in
    (i.0, i.1, walk_on i.2 c.loop-q-test.true c.word-q.result c.word-q.ensures.0, got_pass i.2 c.loop-q-test.true i.3 c.word-q.result c.word-q.ensures.0 (told (goal.at.loop-q-preserved-in-Pass c).After-look_at K.Pass c.in-Pass.is))

pub overflow_add-q-in-Miss : goal.overflow_add-q-in-Miss
overflow_add-q-in-Miss c = record { fits = omega (arith, room (goal.at.overflow_add-q-in-Miss c).After-look_at, wide (goal.at.overflow_add-q-in-Miss c).After-look_at (missed c).ipr) }

pub loop-q-smaller-in-Miss : goal.loop-q-smaller-in-Miss
loop-q-smaller-in-Miss c = less c.loop-q-test.true (omega arith)

pub loop-q-preserved-in-Miss : goal.loop-q-preserved-in-Miss
loop-q-preserved-in-Miss c =
    let i = c.loop-q.invariant in
    (i.0, i.1, walk_on i.2 c.loop-q-test.true 27 (wide (goal.at.loop-q-preserved-in-Miss c).After-look_at (missed c).ipr), got_pass i.2 c.loop-q-test.true i.3 27 (wide (goal.at.loop-q-preserved-in-Miss c).After-look_at (missed c).ipr) (missed c).not_met)

pub shape_of-held-in-Stop : goal.shape_of-held-in-Stop
shape_of-held-in-Stop c = c.loop-q.invariant.1

pub returns-in-Stop : goal.returns-in-Stop
returns-in-Stop c = let i = c.loop-q.invariant in record { same = i.1; all = λ h. absurd (omega (arith, i.1)) }

pub entry_at-requires : goal.entry_at-requires
entry_at-requires c = omega (arith, room (goal.at.entry_at-requires c).After-look_at, wide (goal.at.entry_at-requires c).After-look_at (met (goal.at.entry_at-requires c).In-Found).ipr)

pub put-n-requires : goal.put-n-requires
put-n-requires c = c.loop-q.invariant.0

kept : (c : After-put-n) → length c.put-n.new.held ≡ length c.args.held.now
kept c = c.put-n.ensures.same ∙ c.loop-q.invariant.1

pub shape_of-held-then-held-n : goal.shape_of-held-then-held-n
shape_of-held-then-held-n c = kept (goal.at.shape_of-held-then-held-n c).After-put-n

pub returns-then-held-n : goal.returns-then-held-n
returns-then-held-n c = record { same = kept (goal.at.returns-then-held-n c).After-put-n; all = λ h. absurd (omega (arith, kept (goal.at.returns-then-held-n c).After-put-n, c.if-held-n.true)) }

pub overflow_add-q-in-Found : goal.overflow_add-q-in-Found
overflow_add-q-in-Found c = record { fits = omega (arith, room (goal.at.overflow_add-q-in-Found c).After-look_at, wide (goal.at.overflow_add-q-in-Found c).After-look_at (met (goal.at.overflow_add-q-in-Found c).In-Found).ipr) }

pub loop-q-smaller : goal.loop-q-smaller
loop-q-smaller c = less c.loop-q-test.true (omega arith)

pub loop-q-preserved : goal.loop-q-preserved
loop-q-preserved c =
    let i = c.loop-q.invariant in
    let t = c.loop-q-test.true in
    let z = wide (goal.at.loop-q-preserved c).After-look_at (met (goal.at.loop-q-preserved c).In-Found).ipr in
    (c.if-held-n.false, kept (goal.at.loop-q-preserved c).After-put-n, walk_on i.2 t 27 z, got_put i.2 t i.3 27 z c.entry_at.ensures c.put-n.ensures (omega (arith, c.if-held-n.false, c.put-n.ensures.same)))

pub shape_of-held : goal.shape_of-held
shape_of-held c = c.loop-q.invariant.1

pub returns : goal.returns
returns c = let i = c.loop-q.invariant in record { same = i.1; all = λ h. got_all i.3 c.loop-q-test.false }
