-- `judge::arrival::extent_of` meets its contract: the arrival judge's refusal is handed on; where it waits, the tests say whether the main header
-- and D have come, and what has all come is covered by its records. Assumes nothing.
use Rattle.std.proofs.Common.{subst, inl, inr, arith}
use Rattle.judge.specs.Table.{Open, Judged}
use Rattle.judge.specs.Extent.{Complete}
use Rattle.judge.specs.declared.arrival.Arrival.TheVariants.{Waiting, Refused}
use Rattle.judge.proofs.Covering.{clean_begun, covered, none_yet, some_come}
use Rattle.judge.proofs.arrival.extent_of.Goals as goal
use Rattle.judge.proofs.arrival.extent_of.Goals.{In-Waiting}

opened : (c : In-Waiting) → Open c.args.s.now c.in-Waiting.count c.in-Waiting.end
opened c = subst (Judged c.args.s.now) {y = Waiting c.in-Waiting.count c.in-Waiting.end} c.in-Waiting.is c.requires

pub returns-then-count-eq0 : goal.returns-then-count-eq0
returns-then-count-eq0 c = let o = opened (goal.at.returns-then-count-eq0 c).In-Waiting in (o.clean, inl (none_yet o c.if-count-eq0.true))

pub returns-then-s-declared_size : goal.returns-then-s-declared_size
returns-then-s-declared_size c =
    let o = opened (goal.at.returns-then-s-declared_size c).In-Waiting in
    (o.clean, inr (omega (arith, c.if-s-declared_size.true, c.declared_size.ensures.1 (clean_begun o.clean (some_come o c.if-count-eq0.false)))))

pub returns-in-Refused : goal.returns-in-Refused
returns-in-Refused c = subst (Judged c.args.s.now) {y = Refused c.in-Refused.r} c.in-Refused.is c.requires

pub returns-else-s-declared_size : goal.returns-else-s-declared_size
returns-else-s-declared_size c =
    let o = opened (goal.at.returns-else-s-declared_size c).In-Waiting in
    let h = some_come o c.if-count-eq0.false in
    let k : Complete c.args.s.now = record { clean = o.clean; header = h; come = omega (arith, c.if-s-declared_size.false, c.declared_size.ensures.1 (clean_begun o.clean h)) } in
    (k, covered o k)
