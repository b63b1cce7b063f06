-- `judge::pointers::is_target` meets its contract: its tests are the parts of `Target`. Assumes nothing.
use Rattle.std.proofs.Common.{◌+◌, arith, leb-false, leb-true}
use Rattle.judge.proofs.RankLaws.{clash}
use Rattle.judge.proofs.pointers.is_target.Goals as goal

pub returns-then-s-at-lt4 : goal.returns-then-s-at-lt4
returns-then-s-at-lt4 c = record { good = λ e. clash e; bad = λ _ t. omega (arith, t.four) }

pub returns-then-s-at-gt8 : goal.returns-then-s-at-gt8
returns-then-s-at-gt8 c = record { good = λ e. clash e; bad = λ _ t. omega (arith, t.eight) }

pub returns-then-target-to : goal.returns-then-target-to
returns-then-target-to c = record { good = λ e. clash e; bad = λ _ t. omega (arith, t.past, c.word-target.ensures) }

pub returns : goal.returns
returns c =
    let w = c.word-target in
    let p = c.requires in
    let d = c.args.d in
    record {
      good = λ e. record { four = omega arith; eight = omega arith; past = omega (arith, w.ensures, p.1); within = omega (arith, leb-true (w.result + 20) d e, w.ensures, p.0.d_is) };
      bad = λ e t. omega (arith, leb-false (w.result + 20) d e, w.ensures, p.0.d_is, t.within);
    }
