-- `listing::places` meets its contract: the digits counted and those of what is left are v's. Assumes nothing.
use native.Mathlib.Omega.{arith}
use mathlib.Core.Path.{refl}
use Rattle.listing.proofs.DecimalLaws.{length_most, length_next, length_last}
use Rattle.listing.proofs.places.Goals as goal

pub loop-rest-init : goal.loop-rest-init
loop-rest-init c = (refl, length_most 19 _ (omega arith))

pub overflow_add-n : goal.overflow_add-n
overflow_add-n c = omega arith

pub loop-rest-smaller : goal.loop-rest-smaller
loop-rest-smaller c = omega arith

pub loop-rest-preserved : goal.loop-rest-preserved
loop-rest-preserved c = let l = c.loop-rest in (length_next l.rest l.n _ c.loop-rest-test.true l.invariant.0, l.invariant.1)

pub returns : goal.returns
returns c =
    let l = c.loop-rest in
    let e = length_last l.rest l.n _ (omega arith) l.invariant.0 in
    (omega (arith, e), omega (arith, e, l.invariant.1))
