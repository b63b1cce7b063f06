-- `rewrite::join::join_matched` meets its contract: what is gathered, the plan, and what is put. Assumes nothing.
use Prim.Native.Nat.{ℕ, ◌+◌, ◌≤◌}
use native.Mathlib.Omega.{arith}
use mathlib.Core.Path.{◌≡◌, refl, sym}
use lib.ListN.{length, length-replicate}
use Rattle.std.specs.Prelude.{Err}
use Rattle.std.proofs.Common.{rules}
use Rattle.rewrite.proofs.PlanLaws.{zeros_empty}
use Rattle.rewrite.proofs.StretchLaws.{sections_come}
use Rattle.rewrite.proofs.JoinPlanLaws.{kept_is, kept_at, matched_is, says_big, says_unplanned, says_written}
use Rattle.rewrite.proofs.join.join_matched.Goals as goal
use Rattle.rewrite.proofs.join.join_matched.Goals.{Start}

come-1 : (s : Start) → 3307 + s.args.f.sphr + s.args.f.ipr ≤ length s.args.first.now
come-1 s = let p = s.requires.found in omega (arith, sections_come p.two.first p.first)

come-2 : (s : Start) → 3307 + s.args.g.sphr + s.args.g.ipr + s.args.g.global ≤ length s.args.second.now
come-2 s = let p = s.requires.found in omega (arith, sections_come p.two.second p.second)

low-1 : (s : Start) → length s.args.first.now ≤ 2147483647
low-1 s = let t = s.requires.found.two.first in omega (arith, t.come, t.header.most)

low-2 : (s : Start) → length s.args.second.now ≤ 2147483647
low-2 s = let t = s.requires.found.two.second in omega (arith, t.come, t.header.most)

pub overflow_sub-kept-2 : goal.overflow_sub-kept-2
overflow_sub-kept-2 c = omega (arith, come-1 (goal.at.overflow_sub-kept-2 c).Start)

pub overflow_sub-kept-3 : goal.overflow_sub-kept-3
overflow_sub-kept-3 c = omega (arith, come-1 (goal.at.overflow_sub-kept-3 c).Start)

pub overflow_sub-kept-5 : goal.overflow_sub-kept-5
overflow_sub-kept-5 c = omega (arith, come-2 (goal.at.overflow_sub-kept-5 c).Start)

pub overflow_sub-kept-6 : goal.overflow_sub-kept-6
overflow_sub-kept-6 c = omega (arith, come-2 (goal.at.overflow_sub-kept-6 c).Start)

pub overflow_sub-kept-7 : goal.overflow_sub-kept-7
overflow_sub-kept-7 c = omega (arith, come-2 (goal.at.overflow_sub-kept-7 c).Start)

pub returns-then-kept-gt2147483647 : goal.returns-then-kept-gt2147483647
returns-then-kept-gt2147483647 c = matched_is c.requires (λ i al ti. says_big c.requires al ti _ (kept_is c.requires.found) c.if-kept-gt2147483647.true)

pub gather_both-records-requires : goal.gather_both-records-requires
gather_both-records-requires c =
    record {
      found = c.requires.found;
      small = omega (arith, kept_is c.requires.found, c.if-kept-gt2147483647.false);
      long = length-replicate {A = ℕ} 20480 0;
      empty = zeros_empty 20480;
      nine = refl;
      none = zeros_empty 9;
    }

pub plan_of-requires : goal.plan_of-requires
plan_of-requires c =
    let o = c.gather_both-records.ensures.collected c.requires.found.two in
    record {
      long = o.holds.long;
      nine = o.nine;
      front_low = omega (arith, come-1 (goal.at.plan_of-requires c).Start, low-1 (goal.at.plan_of-requires c).Start);
      kept_low = omega (arith, c.if-kept-gt2147483647.false);
      records_low = c.gather_both-records.ensures.few;
    }

pub returns-in_err-plan : goal.returns-in_err-plan
returns-in_err-plan c =
    let e : c.from_residual.result ≡ Err c.in_err-plan.field-0.0 = search rules in
    rw e
    (matched_is c.requires (λ i al ti. says_unplanned c.requires al ti _ _ (c.in_err-plan.ensures _ _ _ (kept_at (sym (kept_is c.requires.found)) (c.gather_both-records.ensures.collected c.requires.found.two)))))

pub put_join-requires : goal.put_join-requires
put_join-requires c =
    let o = c.gather_both-records.ensures.collected c.requires.found.two in
    record { matched = c.requires; holds = o.holds; kinded = o.kinded; planned = c.in_ok-plan.ensures _ _ _ (kept_at (sym (kept_is c.requires.found)) o) }

pub returns : goal.returns
returns c =
    matched_is c.requires (λ i al ti. says_written c.requires al ti (c.in_ok-plan.ensures _ _ _ (kept_at (sym (kept_is c.requires.found)) (c.gather_both-records.ensures.collected c.requires.found.two))) c.put_join.ensures)
