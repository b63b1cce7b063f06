-- `watch::run_in` meets its contract: the judge's run over the part is one over what was fed, `base` bytes further on. Assumes nothing.
use Rattle.std.proofs.Common.{◌≡◌, ◌+◌, ◌-◌, arith}
use Rattle.judge.specs.Run.{Alike, none}
use Rattle.judge.proofs.RunLaws.{run_le, run_within}
use Rattle.watch.proofs.RunLaws.{run_fed}
use Rattle.watch.proofs.run_in.Goals as goal

pub returns-then-min-base : goal.returns-then-min-base
returns-then-min-base c = record { counted = omega arith; inside = c.requires.0; few = omega arith; right = λ b f. none }

pub returns : goal.returns
returns c =
    let a : Alike c.args.part.now c.args.class c.args.size (c.args.due - c.args.base) (c.args.d - c.args.base) c.args.most (c.args.to - c.args.base) c.run_of-run.result.count c.run_of-run.result.end = c.run_of-run.ensures c.requires.2 in
    -- the part starts before the record ends, and before a pointer is due
    let to : c.args.base + (c.args.to - c.args.base) ≡ c.args.to = omega arith in
    let due : c.args.base + (c.args.due - c.args.base) ≡ c.args.due = omega arith in
    let d : c.args.base + (c.args.d - c.args.base) ≡ c.args.d = omega arith in
    let m = run_le a in
    record {
      counted = omega (arith, m.0, to);
      inside = omega (arith, run_within a (omega (arith, to, d, c.requires.0)), d);
      few = m.1;
      right = λ b f. rw (to, due, d) at (run_fed f a);
    }
