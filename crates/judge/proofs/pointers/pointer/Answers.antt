-- `judge::pointers::pointer` meets its contract. The invariant: the pointers that are looked for are from q on. Assumes nothing.
use Rattle.std.proofs.Common.{◌≡◌, ℕ, ◌+◌, ◌≤◌, length, subst, le_refl, arith}
use Rattle.judge.specs.Table.{size_at}
use Rattle.judge.specs.Step.{Scan, Missed, LookIs}
use Rattle.judge.specs.declared.pointers.Look.{Look}
use Rattle.judge.specs.declared.pointers.Look.TheVariants as K
use Rattle.judge.proofs.ScanLaws.{scan_room, scan_ipr, looking, scan_pass, scan_found, scan_stop, scan_none, scan_narrow, less}
use Rattle.judge.proofs.pointers.pointer.Goals as goal
use Rattle.judge.proofs.pointers.pointer.Goals.{In-loop-q, After-look_at, In-Miss, In-Pass}

abbrev q : In-loop-q → ℕ
q c = c.loop-q.q

abbrev scan : (c : In-loop-q) → Scan c.args.s.now c.args.end c.args.lo c.args.hi c.args.kind (q c)
scan c = c.loop-q.invariant

told : (c : After-look_at) (r : Look) → c.look_at.result ≡ r → LookIs c.args.s.now (q (goal.at.After-look_at c).In-loop-q) c.args.lo c.args.hi c.args.kind c.args.rising r
told c r e = subst (LookIs c.args.s.now (q (goal.at.After-look_at c).In-loop-q) c.args.lo c.args.hi c.args.kind c.args.rising) e c.look_at.ensures

pub loop-q-init : goal.loop-q-init
loop-q-init c = scan_narrow (le_refl _) (le_refl _) c.requires.cursor

pub look_at-requires : goal.look_at-requires
look_at-requires c = looking (scan c) c.loop-q-test.true

pub returns-in-Found : goal.returns-in-Found
returns-in-Found c = scan_found (scan (goal.at.returns-in-Found c).In-loop-q) c.loop-q-test.true (told (goal.at.returns-in-Found c).After-look_at K.Found c.in-Found.is)

pub returns-in-Stop : goal.returns-in-Stop
returns-in-Stop c =
    let b = told (goal.at.returns-in-Stop c).After-look_at K.Stop c.in-Stop.is in
    scan_stop (scan (goal.at.returns-in-Stop c).In-loop-q) (c.requires.order b.rises) c.loop-q-test.true b.ipr b.over

-- a pointer that is not looked for has 27 bytes
missed : (c : In-Miss) → Missed c.args.s.now (q (goal.at.In-Miss c).In-loop-q) c.args.lo c.args.hi c.args.kind
missed c = told (goal.at.In-Miss c).After-look_at K.Miss c.in-Miss.is

wide : (c : In-Miss) → 27 ≡ size_at c.args.s.now (q (goal.at.In-Miss c).In-loop-q)
wide c = scan_ipr (scan (goal.at.In-Miss c).In-loop-q) c.loop-q-test.true (missed c).ipr

pub overflow_add-q : goal.overflow_add-q
overflow_add-q c = record { fits = omega (arith, scan_room (scan (goal.at.overflow_add-q c).In-loop-q) c.loop-q-test.true, wide c) }

pub loop-q-smaller-in-Miss : goal.loop-q-smaller-in-Miss
loop-q-smaller-in-Miss c = less c.loop-q-test.true (omega arith)

pub loop-q-preserved-in-Miss : goal.loop-q-preserved-in-Miss
loop-q-preserved-in-Miss c = scan_pass (scan (goal.at.loop-q-preserved-in-Miss c).In-loop-q) c.loop-q-test.true (missed c).not_met 27 (wide c)

room : (c : In-Pass) → (q (goal.at.In-Pass c).In-loop-q + size_at c.args.s.now (q (goal.at.In-Pass c).In-loop-q) ≤ c.args.end) × (20 ≤ size_at c.args.s.now (q (goal.at.In-Pass c).In-loop-q)) × (c.args.end ≤ length c.args.s.now)
room c = scan_room (scan (goal.at.In-Pass c).In-loop-q) c.loop-q-test.true

pub overflow_add-q-in-Pass : goal.overflow_add-q-in-Pass
overflow_add-q-in-Pass c = record { fits = omega (arith, room c) }

pub word-q-requires : goal.word-q-requires
word-q-requires c = omega (arith, room c)

pub overflow_add-q-in-Pass-2 : goal.overflow_add-q-in-Pass-2
overflow_add-q-in-Pass-2 c = record { fits = omega (arith, room (goal.at.overflow_add-q-in-Pass-2 c).In-Pass, c.word-q.ensures) }

pub loop-q-smaller : goal.loop-q-smaller
loop-q-smaller c = less c.loop-q-test.true (omega (arith, room (goal.at.loop-q-smaller c).In-Pass, c.word-q.ensures))

pub loop-q-preserved : goal.loop-q-preserved
loop-q-preserved c =
    scan_pass (scan (goal.at.loop-q-preserved c).In-loop-q) c.loop-q-test.true (told (goal.at.loop-q-preserved c).After-look_at K.Pass c.in-Pass.is) c.word-q.result c.word-q.ensures.0

pub returns : goal.returns
returns c = scan_none c.loop-q.invariant c.loop-q-test.false
