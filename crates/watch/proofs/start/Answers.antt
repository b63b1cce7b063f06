-- `watch::start` meets its contract: the main header under way by HeadLaws, and the walk from its end on. What is known of the header is known where
-- the watch stands for something (`reaches`). Assumes nothing.
use Prim.Native.Nat.{ℕ, ◌≤◌}
use native.Mathlib.Omega.{arith}
use mathlib.Core.Path.{◌≡◌, sym, ◌∙◌, subst}
use mathlib.Core.List.{List}
use lib.ListN.{length, take}
use borrow.Author.Tests.{not-true, not-false}
use Rattle.judge.proofs.RankLaws.{part_is, not_part}
use mathlib.Core.List.{◌++◌}
use lib.Seq.{take_all}
use Rattle.mphr.specs.Table as M
use Rattle.mphr.specs.Resumed.{Resumes, UnderWay, ReachedIs}
use Rattle.std.specs.declared.result.Result.TheVariants.{Ok, Err}
use Rattle.std.specs.declared.result.Result.{Result}
use Rattle.calendar.specs.declared.Refusal.{Refusal}
use Rattle.mphr.specs.declared.faults.Line.{Line}
use Rattle.judge.specs.Turning.{Begun}
use Rattle.watch.specs.Stands.{laid, StandsFor}
use Rattle.watch.specs.declared.Watch.{Watch}
use Rattle.watch.proofs.WatchLaws.{same_right}
use Rattle.watch.proofs.HeadLaws.{head_quiet, resumes, head_refused, head_waits, head_six, sane_first, walking_first}
use borrow.Author.Rules.{rules}
use Rattle.watch.proofs.start.Goals as goal
use Rattle.watch.proofs.start.Goals.{Start, After-head_lines, In-Ok, After-declared_size-d}

-- the watch that is fed
abbrev fed : Start → Watch
fed s = laid s.args.mark s.args.totals.now s.args.tally.now s.args.starts.now s.args.targets.now s.args.kinds.now s.args.head.now s.args.under.now

-- the bytes of the main header that have come
abbrev come : After-head_lines → List ℕ
come c = take c.keep-got.result c.keep-got.new.head

told : (c : After-head_lines) (r : Result Line Refusal) → c.head_lines.result ≡ r → Resumes (come c) c.args.mark.line → ReachedIs (come c) r
told c r e u = subst (ReachedIs (come c)) e (c.head_lines.ensures u)

reaches : (c : In-Ok) (a : List ℕ) → StandsFor (fed (goal.at.In-Ok c).Start) a → c.args.mark.number ≡ 0 → M.Clean (come (goal.at.In-Ok c).After-head_lines) × UnderWay (length (come (goal.at.In-Ok c).After-head_lines)) c.in-Ok.reached.line c.in-Ok.reached.end
reaches c a s z = told (goal.at.In-Ok c).After-head_lines (Ok c.in-Ok.reached) c.in-Ok.is (resumes s z c.requires c.keep-got.ensures)

-- the whole header has come
begun-of : {h : List ℕ} {r : ℕ} → length h ≡ 3307 → 3307 ≤ r → M.Clean (take r h) → Begun h
begun-of {h} {r} l u c = record { clean = rw (take_all r h (omega arith)) at c; come = omega arith }

pub returns-then-got-v : goal.returns-then-got-v
returns-then-got-v c = λ a x z. same_right c.early.ensures.0 c.early.ensures.1 (head_quiet x z c.requires c.keep-got.ensures c.if-got-v.true)

pub returns-in-Err : goal.returns-in-Err
returns-in-Err c =
    let k = c.keep-got.ensures in
    λ a s z. head_refused s z c.requires k (told (goal.at.returns-in-Err c).After-head_lines (Err c.in-Err.r) c.in-Err.is (resumes s z c.requires k)) c.refuse.ensures.0 c.refuse.ensures.1

pub returns-then-got-lt3307 : goal.returns-then-got-lt3307
returns-then-got-lt3307 c =
    λ a s z. let y = reaches (goal.at.returns-then-got-lt3307 c).In-Ok a s z in same_right c.early-then-got-lt3307.ensures.0 c.early-then-got-lt3307.ensures.1 (head_waits s z c.requires c.keep-got.ensures y.0 c.if-got-lt3307.true y.1)

begun : (z : After-declared_size-d) → M.Clean (come (goal.at.After-declared_size-d z).After-head_lines) → Begun z.keep-got.new.head
begun z = begun-of (search rules) z.if-got-lt3307.false

pub returns-then-not-is_sane : goal.returns-then-not-is_sane
returns-then-not-is_sane c =
    λ a s k. let d = c.declared_size-d.ensures.1 (begun (goal.at.returns-then-not-is_sane c).After-declared_size-d (reaches (goal.at.returns-then-not-is_sane c).In-Ok a s k).0) in absurd (c.is_sane.ensures.bad (not-true c.is_sane.result c.if-not-is_sane.true-raw) (sane_first d.1 d.2) (omega (arith, c.keep-got.ensures.most, d.1)))

pub returns-then-is_part : goal.returns-then-is_part
returns-then-is_part c =
    let q = part_is 3307 c.declared_size-d.result (sym c.is_part.ensures ∙ c.if-is_part.true) in
    λ a s k. let y = (reaches (goal.at.returns-then-is_part c).In-Ok a s k).0 in head_six s k c.requires c.keep-got.ensures y c.if-got-lt3307.false (c.declared_size-d.ensures.1 (begun (goal.at.returns-then-is_part c).After-declared_size-d y)).0 q.0 q.1 c.refuse-then-is_part.ensures.0 c.refuse-then-is_part.ensures.1

pub walk-requires : goal.walk-requires
walk-requires c =
    ((c.is_sane.ensures.good (not-false c.is_sane.result c.if-not-is_sane.false-raw)).0, omega (arith, c.requires))

pub returns : goal.returns
returns c =
    λ a s k. let y = (reaches (goal.at.returns c).In-Ok a s k).0 in c.walk.ensures _ (a ++ c.args.part.now) (walking_first s k c.requires c.keep-got.ensures y c.if-got-lt3307.false (c.declared_size-d.ensures.1 (begun (goal.at.returns c).After-declared_size-d y)).0 (not_part 3307 c.declared_size-d.result (sym c.is_part.ensures ∙ c.if-is_part.false)) (c.totals_of.ensures.1 (begun (goal.at.returns c).After-declared_size-d y)))
