-- `rewrite::cut::cut_product` meets its contract: what the survey found, the plan, and what is put. Assumes nothing.
use Prim.Native.Nat.{ℕ}
use native.Mathlib.Omega.{arith}
use mathlib.Core.Path.{◌≡◌, refl}
use lib.ListN.{length-replicate}
use Rattle.parts.specs.Cut.{Window, window, is_kept}
use Rattle.parts.specs.Only.{only, is_sphr}
use Rattle.parts.specs.Parts.{main_of, records_at}
use Rattle.meter.specs.Integer.{Bytes}
use Rattle.parts.proofs.WalkLaws.{walk_first}
use Rattle.std.specs.Prelude.{Err}
use Rattle.std.proofs.Common.{rules}
use Rattle.rewrite.specs.Assembling.{Collected}
use Rattle.rewrite.specs.Surveying.{Found}
use Rattle.rewrite.proofs.PlanLaws.{collected, says_unplanned, says_written, zeros_empty}
use Rattle.rewrite.proofs.cut.cut_product.Goals as goal
use Rattle.rewrite.proofs.cut.cut_product.Goals.{After-survey-found}

abbrev w : After-survey-found → Window
w c = window c.args.first c.args.last

byte : (c : After-survey-found) → Bytes c.args.s.now
byte c k = (c.shared_slice_known-1.given k).fits

found : (c : After-survey-found) → Found (w c) (records_at c.args.s.now c.requires.product.list) c.survey-found.new.table c.survey-found.new.tally c.survey-found.result
found c = c.survey-found.ensures.found (records_at c.args.s.now c.requires.product.list) (walk_first c.args.s.now c.requires.product)

pub survey-found-requires : goal.survey-found-requires
survey-found-requires c =
    let t = c.requires.product in
    record {
      small = omega (arith, t.come, t.header.most);
      records = records_at c.args.s.now t.list;
      walk = walk_first c.args.s.now t;
      long = length-replicate {A = ℕ} 20480 0;
      empty = zeros_empty 20480;
      nine = refl;
      none = zeros_empty 9;
    }

gathered : (c : After-survey-found) → Collected (only is_sphr (records_at c.args.s.now c.requires.product.list)) (only (is_kept (w c)) (records_at c.args.s.now c.requires.product.list)) c.survey-found.new.table c.survey-found.new.tally c.survey-found.result.front c.survey-found.result.kept c.survey-found.result.records
gathered c = collected c.args.s.now (w c) c.requires.product (byte c) (found c)

pub put_cut-requires : goal.put_cut-requires
put_cut-requires c =
    let f = found (goal.at.put_cut-requires c).After-survey-found in
    let g = gathered (goal.at.put_cut-requires c).After-survey-found in
    record { product = c.requires.product; holds = f.holds; kinded = g.kinded; front = f.front; first = f.first; last = f.last; planned = c.in_ok-plan.ensures _ _ _ g }

pub returns-in_err-plan : goal.returns-in_err-plan
returns-in_err-plan c =
    let e : c.from_residual.result ≡ Err c.in_err-plan.field-0.0 = search rules in
    rw e (says_unplanned c.requires.product c.requires.windowed _ _ (c.in_err-plan.ensures _ _ _ (gathered (goal.at.returns-in_err-plan c).After-survey-found)))

pub returns : goal.returns
returns c =
    let a = c.args in
    let rs = records_at a.s.now c.requires.product.list in
    let k = c.in_ok-plan.ensures (main_of a.s.now) (only is_sphr rs) (only (is_kept (window a.first a.last)) rs) (gathered (goal.at.returns c).After-survey-found) in
    says_written c.requires.product c.requires.windowed (byte (goal.at.returns c).After-survey-found) _ _ k.size_is k.holdable k.fits c.put_cut.ensures
