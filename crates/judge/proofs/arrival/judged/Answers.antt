-- `judge::arrival::judged` meets its contract: the main header's refusal handed on, or the walk. Assumes nothing.
use Rattle.std.proofs.Common.{◌≡◌, subst}
use Rattle.mphr.specs.Table.{FirstIs}
use Rattle.std.specs.declared.result.Result.TheVariants.{Ok, Err}
use Rattle.std.specs.declared.result.Result.{Result}
use Rattle.calendar.specs.declared.Refusal.{Refusal}
use Rattle.judge.proofs.TurnLaws.{hand_on, open_early}
use Rattle.judge.proofs.StretchLaws.{told_at_once}
use Rattle.judge.proofs.arrival.judged.Goals as goal
use Rattle.judge.proofs.arrival.judged.Goals.{After-header_fault}

told : (c : After-header_fault) (r : Result Unit Refusal) → c.header_fault.result ≡ r → FirstIs c.args.s.now r
told c r e = subst (FirstIs c.args.s.now) e c.header_fault.ensures

pub returns-then-s-lt3307 : goal.returns-then-s-lt3307
returns-then-s-lt3307 c = told_at_once c.at_once-then-s-lt3307.ensures (open_early (told (goal.at.returns-then-s-lt3307 c).After-header_fault (Ok tt) c.in-Ok.is) c.if-s-lt3307.true)

pub walk-requires : goal.walk-requires
walk-requires c = record { clean = told (goal.at.walk-requires c).After-header_fault (Ok tt) c.in-Ok.is; come = c.if-s-lt3307.false }

pub returns-in-Err : goal.returns-in-Err
returns-in-Err c = told_at_once c.at_once.ensures (hand_on (told (goal.at.returns-in-Err c).After-header_fault (Err c.in-Err.r) c.in-Err.is))
