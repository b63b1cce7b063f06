-- `rewrite::gather::gather` meets its contract: the records before the next one are gathered, some of one size at a time. Assumes nothing.
use Prim.Native.Nat.{◌+◌}
use native.Mathlib.Omega.{arith}
use mathlib.Core.Path.{refl, sym, ◌∙◌}
use Rattle.rewrite.specs.Gathering.{Going}
use Rattle.rewrite.proofs.GatherLaws.{going_first, going_one, going_last}
use Rattle.rewrite.proofs.gather.gather.Goals as goal
use Rattle.rewrite.proofs.gather.gather.Goals.{After-struct_known-1}

further : (c : After-struct_known-1) → Going c.args.s.now c.args.from c.args.to c.args.n c.args.table.now c.args.tally.now (c.loop-at.records + c.gather_alike-reached.result.records) c.gather_alike-reached.result.at c.gather_alike-reached.new.table c.gather_alike-reached.new.tally
further c = c.gather_alike-reached.ensures.on _ _ _ _ _ refl c.loop-at.invariant

pub loop-at-init : goal.loop-at-init
loop-at-init c = going_first c.requires

pub overflow_sub-at : goal.overflow_sub-at
overflow_sub-at c = omega (arith, c.loop-at.invariant.here)

pub overflow_add-n : goal.overflow_add-n
overflow_add-n c = omega (arith, (going_one c.loop-at.invariant c.loop-at-test.true _ refl).small)

pub gather_alike-reached-requires : goal.gather_alike-reached-requires
gather_alike-reached-requires c =
    let a = c.args in
    record {
      from = a.from;
      n = a.n;
      table₀ = a.table.now;
      tally₀ = a.tally.now;
      k = c.loop-at.records;
      going = c.loop-at.invariant;
      inside = c.loop-at-test.true;
      place = refl;
    }

pub overflow_add-records : goal.overflow_add-records
overflow_add-records c = let g = further c in omega (arith, g.few, g.walk.within)

pub loop-at-smaller : goal.loop-at-smaller
loop-at-smaller c = omega (arith, c.gather_alike-reached.ensures.further, c.loop-at-test.true)

pub loop-at-preserved : goal.loop-at-preserved
loop-at-preserved c = further c

pub shape_of-table : goal.shape_of-table
shape_of-table c = let i = c.loop-at.invariant in i.long ∙ sym i.start.gathered.holds.long

pub shape_of-tally : goal.shape_of-tally
shape_of-tally c = let i = c.loop-at.invariant in i.nine ∙ sym i.start.gathered.nine

pub returns : goal.returns
returns c = going_last c.loop-at.invariant c.loop-at-test.false
