-- `rewrite::join::put_join` meets its contract: the header, the SPHR, the pointers and the records, one after the other. Assumes nothing.
use Prim.Native.Nat.{◌≤◌}
use native.Mathlib.Omega.{arith}
use mathlib.Core.Path.{◌≡◌, sym, ap, ◌∙◌}
use lib.ListN.{length}
use lib.Seq.{length-sets}
use borrow.Author.Rules.{rules}
use Rattle.rewrite.proofs.JoinPlanLaws.{two_headers, planned_header, planned_first, planned_pointers, planned_bytes, puts_join}
use Rattle.rewrite.proofs.join.put_join.Goals as goal
use Rattle.rewrite.proofs.join.put_join.Goals.{After-header-1, After-copy, After-copy-2, After-put_pointers}

small : (c : After-header-1) → c.args.plan.size ≤ 2147483647
small c = let p = c.requires in omega (arith, p.planned.size_is, p.planned.holdable.size)

long-1 : (c : After-copy) → length c.copy.new.room ≡ length c.args.room.now
long-1 c = ap length c.copy.ensures ∙ simp length-sets

long-2 : (c : After-copy-2) → length c.copy-2.new.room ≡ length c.args.room.now
long-2 c = ap length c.copy-2.ensures ∙ simp length-sets (long-1 (goal.at.After-copy-2 c).After-copy)

long-3 : (c : After-put_pointers) → length c.put_pointers.new.room ≡ length c.args.room.now
long-3 c = ap length c.put_pointers.ensures.put ∙ simp length-sets (long-2 (goal.at.After-put_pointers c).After-copy-2)

pub slice_bounds-put_join_header-end : goal.slice_bounds-put_join_header-end
slice_bounds-put_join_header-end c = let t = c.requires.matched.found.two in sym (two_headers t).first_long

pub slice_bounds-put_join_header-end-2 : goal.slice_bounds-put_join_header-end-2
slice_bounds-put_join_header-end-2 c = let t = c.requires.matched.found.two in sym (two_headers t).second_long

pub put_join_header-requires : goal.put_join_header-requires
put_join_header-requires c = planned_header c.requires _ (search rules)

pub copy-requires : goal.copy-requires
copy-requires c = let p = c.requires in (search rules, omega (arith, p.planned.fits, planned_bytes p, planned_pointers p))

pub copy-requires-2 : goal.copy-requires-2
copy-requires-2 c =
    let p = c.requires in
    (omega (arith, planned_first p), omega (arith, p.planned.fits, planned_bytes p, planned_pointers p, long-1 (goal.at.copy-requires-2 c).After-copy))

pub overflow_add-f : goal.overflow_add-f
overflow_add-f c = omega (arith, planned_pointers c.requires, planned_bytes c.requires, small (goal.at.overflow_add-f c).After-header-1)

pub put_pointers-requires : goal.put_pointers-requires
put_pointers-requires c =
    let p = c.requires in
    record {
      head = omega (arith, planned_first p);
      low = omega (arith, planned_bytes p, small (goal.at.put_pointers-requires c).After-header-1);
      long = p.holds.long;
      fits = omega (arith, p.planned.fits, planned_bytes p, planned_pointers p, long-2 (goal.at.put_pointers-requires c).After-copy-2);
    }

pub put_records-requires : goal.put_records-requires
put_records-requires c =
    let p = c.requires in
    record { found = p.matched.found; fits = omega (arith, p.planned.fits, planned_bytes p, long-3 (goal.at.put_records-requires c).After-put_pointers); low = omega (arith, planned_bytes p, small (goal.at.put_records-requires c).After-header-1) }

pub returns : goal.returns
returns c =
    puts_join c.requires c.put_join_header.ensures c.copy.ensures c.copy-2.ensures c.put_pointers.ensures c.put_records.ensures
