-- `rewrite::cut::put_cut` meets its contract: the header, the SPHR, the pointers and what is kept, one after the other. Assumes nothing.
use native.Mathlib.Omega.{arith}
use mathlib.Core.Path.{◌≡◌, ap, ◌∙◌}
use lib.ListN.{length}
use lib.Seq.{length-sets}
use Rattle.parts.specs.Parts.{records_at}
use Rattle.parts.proofs.WalkLaws.{walk_first}
use Rattle.rewrite.proofs.PlanLaws.{planned_come, planned_bytes, planned_small, planned_header, planned_pointers, planned_kept, puts_cut}
use borrow.Author.Rules.{rules}
use Rattle.rewrite.proofs.cut.put_cut.Goals as goal
use Rattle.rewrite.proofs.cut.put_cut.Goals.{After-copy, After-copy-2, After-put_pointers-to}

long-1 : (c : After-copy) → length c.copy.new.room ≡ length c.args.room.now
long-1 c = ap length c.copy.ensures ∙ simp length-sets

long-2 : (c : After-copy-2) → length c.copy-2.new.room ≡ length c.args.room.now
long-2 c = ap length c.copy-2.ensures ∙ simp length-sets (long-1 (goal.at.After-copy-2 c).After-copy)

long-3 : (c : After-put_pointers-to) → length c.put_pointers-to.new.room ≡ length c.args.room.now
long-3 c = ap length c.put_pointers-to.ensures.put ∙ simp length-sets (long-2 (goal.at.After-put_pointers-to c).After-copy-2)

pub put_header-requires : goal.put_header-requires
put_header-requires c = planned_header c.requires _ (search rules)

pub copy-requires : goal.copy-requires
copy-requires c = let p = c.requires in (search rules, omega (arith, p.planned.fits, planned_bytes p, planned_pointers p))

pub copy-requires-2 : goal.copy-requires-2
copy-requires-2 c = let p = c.requires in (planned_come p, omega (arith, p.planned.fits, planned_bytes p, planned_pointers p, long-1 (goal.at.copy-requires-2 c).After-copy))

pub put_pointers-to-requires : goal.put_pointers-to-requires
put_pointers-to-requires c =
    let p = c.requires in
    record {
      head = omega (arith, planned_come p);
      low = omega (arith, planned_bytes p, planned_small p);
      long = p.holds.long;
      fits = omega (arith, p.planned.fits, planned_bytes p, planned_pointers p, long-2 (goal.at.put_pointers-to-requires c).After-copy-2);
    }

pub put_kept-requires : goal.put_kept-requires
put_kept-requires c =
    let p = c.requires in
    let s = c.args.s.now in
    record { records = records_at s p.product.list; walk = walk_first s p.product; fits = omega (arith, p.planned.fits, planned_bytes p, planned_pointers p, planned_kept p, long-3 (goal.at.put_kept-requires c).After-put_pointers-to, c.put_pointers-to.ensures.next) }

pub returns : goal.returns
returns c =
    puts_cut c.requires _ _ _ _ _ _ _ c.put_header.ensures c.copy.ensures c.copy-2.ensures c.put_pointers-to.ensures c.put_kept.ensures
