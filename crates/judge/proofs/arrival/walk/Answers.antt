-- `judge::arrival::walk` meets its contract: the walk is asked with each room. Assumes nothing.
use Rattle.std.proofs.Common.{sym, ◌∙◌, arith, rules}
use Rattle.judge.specs.Turning.{Walking}
use Rattle.judge.proofs.RankLaws.{part_is, not_part}
use Rattle.judge.proofs.JudgeLaws.{refuse_6_first}
use Rattle.judge.proofs.TurnLaws.{said}
use Rattle.judge.proofs.StretchLaws.{told_at_once}
use Rattle.judge.proofs.arrival.walk.Goals as goal
use Rattle.judge.proofs.arrival.walk.Goals.{After-totals_of-totals}

walking : (c : After-totals_of-totals) → Walking c.args.s.now c.totals_of-totals.result c.declared_size-d.result
walking c =
    let z = c.declared_size-d in
    record {
      begun = c.requires;
      d_is = (z.ensures.1 c.requires).0;
      least = (z.ensures.1 c.requires).1;
      small = (z.ensures.1 c.requires).2;
      not_part = λ h. omega (arith, not_part 3307 z.result (sym c.is_part.ensures ∙ c.if-is_part.false) h);
      totals = c.totals_of-totals.ensures.1 c.requires;
    }

pub returns-then-is_part : goal.returns-then-is_part
returns-then-is_part c =
    let z = c.declared_size-d in
    let p = part_is 3307 z.result (sym c.is_part.ensures ∙ c.if-is_part.true) in
    told_at_once c.at_once.ensures (said c.args.s.now c.refusal.ensures (refuse_6_first c.requires.clean c.requires.come (omega (arith, p, (z.ensures.1 c.requires).0)) (omega (arith, p, (z.ensures.1 c.requires).0))))

pub walk_in-requires : goal.walk_in-requires
walk_in-requires c = (walking (goal.at.walk_in-requires c).After-totals_of-totals, search rules)

pub walk_in-requires-then-totals-le256 : goal.walk_in-requires-then-totals-le256
walk_in-requires-then-totals-le256 c = (walking (goal.at.walk_in-requires-then-totals-le256 c).After-totals_of-totals, search rules)

pub walk_far-requires : goal.walk_far-requires
walk_far-requires c = walking (goal.at.walk_far-requires c).After-totals_of-totals
