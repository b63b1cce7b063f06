-- `query::field_at` meets its contract: the judge's refusal of the main header's bytes is handed on; then each test by its row. Assumes
-- nothing.
use native.Mathlib.Omega.{arith}
use Rattle.std.proofs.Common.{rules}
use Prim.Native.Nat.{◌+◌, ◌≤◌}
use mathlib.Core.Path.{◌≡◌, sym, ap, ◌∙◌}
use mathlib.Core.Bool.{true≢false}
use lib.ListN.{length}
use Rattle.calendar.specs.Said.{said}
use Rattle.mphr.specs.Layout.{kind_of}
use Rattle.judge.specs.Table.{Clean, Judged}
use Rattle.query.specs.Query.{main_part, sort_of, faulty, not_a_field as none}
use Rattle.query.proofs.QueryLaws.{Come, part_main, handed, short_at, not_known, PlaceIs, placed, start_small}
use Rattle.query.proofs.field_at.Goals as goal
use Rattle.query.proofs.field_at.Goals.{After-judge_arrival-judged, In-Waiting, Else-n-lt3307, In-Ok, After-eq}

come : (c : After-judge_arrival-judged) → Come c.min-n.result (length c.args.bytes.now)
come c = record { within = search rules; most = search rules; all = search rules }

judged : (c : After-judge_arrival-judged) → Judged (main_part c.args.bytes.now) c.judge_arrival-judged.result
judged c = rw (part_main c.args.bytes.now c.min-n.result (come c)) at c.judge_arrival-judged.ensures

clean : (c : In-Waiting) → Clean (main_part c.args.bytes.now)
clean c = let j = rw c.in-Waiting.is at (judged (goal.at.In-Waiting c).After-judge_arrival-judged) in j.clean

all_come : (c : Else-n-lt3307) → 3307 ≤ length c.args.bytes.now
all_come c = omega (arith, (come (goal.at.Else-n-lt3307 c).After-judge_arrival-judged).within)

place : (c : In-Ok) → PlaceIs c.args.k c.in-Ok.place
place c = placed (ap said (sym c.in-Ok.is) ∙ c.field_place.ensures)

sort : (c : After-eq) → c.sort_of.result ≡ sort_of (kind_of c.args.k)
sort c = c.sort_of.ensures ∙ ap sort_of (place (goal.at.After-eq c).In-Ok).kind_is

pub returns-in_default : goal.returns-in_default
returns-in_default c = faulty (handed c.in_default.is c.refusal_of.ensures (judged (goal.at.returns-in_default c).After-judge_arrival-judged))

pub returns-then-n-lt3307 : goal.returns-then-n-lt3307
returns-then-n-lt3307 c = let m = come (goal.at.returns-then-n-lt3307 c).After-judge_arrival-judged in short_at (m.all c.if-n-lt3307.true) (clean (goal.at.returns-then-n-lt3307 c).In-Waiting) c.if-n-lt3307.true

pub overflow_add-result : goal.overflow_add-result
overflow_add-result c = let p = place (goal.at.overflow_add-result c).In-Ok in omega (arith, p.start_is, start_small p.known)

pub returns-in-Ok : goal.returns-in-Ok
returns-in-Ok c =
    let p = place (goal.at.returns-in-Ok c).In-Ok in
    record {
      allowed = record { clean = clean (goal.at.returns-in-Ok c).In-Waiting; come = all_come (goal.at.returns-in-Ok c).Else-n-lt3307; field = record { known = p.known; sorted = sym (sort (goal.at.returns-in-Ok c).After-eq) ∙ search rules } };
      start_is = ap (λ (i : _). i + 32) p.start_is;
      width_is = p.width_is;
    }

pub returns-in_default-field_place : goal.returns-in_default-field_place
returns-in_default-field_place c =
    none (clean (goal.at.returns-in_default-field_place c).In-Waiting) (all_come (goal.at.returns-in_default-field_place c).Else-n-lt3307) (λ d. let e = sort (goal.at.returns-in_default-field_place c).After-eq ∙ d.sorted in let f = rw e at c.if-eq.ensures in true≢false (search rules))

pub returns-in_default-field_place-2 : goal.returns-in_default-field_place-2
returns-in_default-field_place-2 c =
    none (clean (goal.at.returns-in_default-field_place-2 c).In-Waiting) (all_come (goal.at.returns-in_default-field_place-2 c).Else-n-lt3307) (λ d. not_known (ap said (sym c.in_default-field_place.is) ∙ c.field_place.ensures) d.known)
