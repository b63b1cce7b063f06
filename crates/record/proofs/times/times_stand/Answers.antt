-- `record::times::times_stand` meets its contract: what both readers answer, and then the order of the times, decides (TimesLaws). Assumes nothing.
use Rattle.std.proofs.Common.{◌≡◌, not, sym, ap, ◌∙◌, refl, is_le, rules}
use Rattle.std.specs.declared.option.Option.{Option}
use Rattle.std.specs.declared.result.Result.TheVariants.{Ok, Err}
use Rattle.std.specs.declared.result.Result.{Result}
use Rattle.std.specs.declared.cmp.Ordering.TheVariants.{Less, Equal, Greater}
use Rattle.std.specs.declared.cmp.Ordering.{Ordering}
use Rattle.calendar.specs.declared.Refusal.{Refusal}
use Rattle.calendar.specs.Said.{Said, answer}
use Rattle.meter.specs.declared.time.Time.{Time}
use Rattle.meter.specs.Time.{compared}
use Rattle.record.specs.Times.{is_after, times_stand}
use Rattle.record.proofs.TimesLaws.{by_answers, stands_by}
use Rattle.record.proofs.times.times_stand.Goals as goal
use Rattle.record.proofs.times.times_stand.Goals.{After-read_time-2, After-time_order}

told : (c : After-read_time-2) → stands_by c.read_time.result c.read_time-2.result ≡ times_stand c.args.bytes.now c.args.at
told c = by_answers c.args.bytes.now c.args.at (search rules) _ _ c.read_time.ensures c.read_time-2.ensures

pub returns-in_default : goal.returns-in_default
returns-in_default c = ap (λ (x : Result (Option Time) Refusal). stands_by x (Err c.in_default.field-0-1)) (sym c.in_default.is-0) ∙ ap (stands_by c.read_time.result) (sym c.in_default.is-1) ∙ told (goal.at.returns-in_default c).After-read_time-2

pub returns-in_default-2 : goal.returns-in_default-2
returns-in_default-2 c = ap (λ (x : Result (Option Time) Refusal). stands_by x c.read_time-2.result) (sym c.in_default.is-0) ∙ told (goal.at.returns-in_default-2 c).After-read_time-2

-- where both are right, their order decides
both : (c : After-time_order) (x : Said Ordering) → x ≡ compared c.in-Ok-Ok.start c.in-Ok-Ok.stop → not (is_after x) ≡ times_stand c.args.bytes.now c.args.at
both c x e =
    ap (λ (y : Said Ordering). not (is_after y)) e
    ∙ ap (λ (y : Result (Option Time) Refusal). stands_by y (Ok c.in-Ok-Ok.stop)) (sym c.in-Ok-Ok.is-0)
    ∙ ap (stands_by c.read_time.result) (sym c.in-Ok-Ok.is-1)
    ∙ told (goal.at.After-time_order c).After-read_time-2

at_most : (o : Ordering) → is_le o ≡ not (is_after (answer o))
at_most Less = refl
at_most Equal = refl
at_most Greater = refl

pub returns-in-Ok : goal.returns-in-Ok
returns-in-Ok c = c.is_le.ensures ∙ at_most c.in-Ok.order ∙ both (goal.at.returns-in-Ok c).After-time_order _ c.in-Ok.ensures

pub returns-in-Err : goal.returns-in-Err
returns-in-Err c = both (goal.at.returns-in-Err c).After-time_order _ c.in-Err.ensures
