-- `meter::general::write_general` meets its contract: each way out by its tests (GeneralCode). Assumes nothing.
use Rattle.meter.proofs.GeneralCode.{width_high, write_wrong, write_small, write_done}
use Rattle.meter.proofs.GeneralWrite.{width_low}
use native.Mathlib.Omega.{arith}
use borrow.Author.Tests.{not-true, not-false}
use Rattle.meter.proofs.general.write_general.Goals as goal

pub returns-then-not-fits_general : goal.returns-then-not-fits_general
returns-then-not-fits_general c = let a = c.args in write_wrong a.room.now a.long a.time c.digits-n.result c.digits-n.ensures c.fits_general.result c.fits_general.ensures (not-true c.fits_general.result c.if-not-fits_general.true-raw)

pub overflow_add-n : goal.overflow_add-n
overflow_add-n c = omega (arith, c.digits-n.ensures, width_high c.args.long)

pub overflow_add-result : goal.overflow_add-result
overflow_add-result c = omega (arith, c.digits-n.ensures, width_high c.args.long)

pub returns-then-room-n : goal.returns-then-room-n
returns-then-room-n c = let a = c.args in write_small a.room.now a.long a.time c.digits-n.result c.digits-n.ensures c.fits_general.result c.fits_general.ensures (not-false c.fits_general.result c.if-not-fits_general.false-raw) c.if-room-n.true

pub put_general-requires : goal.put_general-requires
put_general-requires c = (omega (arith, c.digits-n.ensures, width_low c.args.long), omega (arith, c.if-room-n.false))

pub returns : goal.returns
returns c = let a = c.args in write_done a.room.now a.long a.time c.digits-n.result c.digits-n.ensures c.fits_general.result c.fits_general.ensures (not-false c.fits_general.result c.if-not-fits_general.false-raw) c.if-room-n.false c.put_general.new.room c.put_general.ensures
