-- `text::write_number` meets its contract: what fits, the room, then the bytes. Assumes nothing.
use Rattle.text.proofs.Laws.{fits_some, write_wrong, write_small, write_done}
use Rattle.text.specs.Writing.{fits_number, put_number}
use borrow.Author.Tests.{not-true, not-false}
use mathlib.Core.Path.{sym, ◌∙◌}
use Rattle.text.proofs.write_number.Goals as goal

pub returns-then-not-fits_number : goal.returns-then-not-fits_number
returns-then-not-fits_number c = let a = c.args in write_wrong a.room.now a.width (fits_number a.signed a.width a.number) c.fits_number.result c.fits_number.ensures (put_number a.width a.room.now a.number) (not-true c.fits_number.result c.if-not-fits_number.true-raw)

pub returns-then-room-width : goal.returns-then-room-width
returns-then-room-width c = let a = c.args in write_small a.room.now a.width (fits_number a.signed a.width a.number) c.fits_number.result c.fits_number.ensures (put_number a.width a.room.now a.number) (not-false c.fits_number.result c.if-not-fits_number.false-raw) c.if-room-width.true

pub put_number-requires : goal.put_number-requires
put_number-requires c = let a = c.args in (fits_some a.signed a.width a.number (sym c.fits_number.ensures ∙ not-false c.fits_number.result c.if-not-fits_number.false-raw), c.if-room-width.false)

pub returns : goal.returns
returns c = let a = c.args in write_done a.room.now a.width (fits_number a.signed a.width a.number) c.fits_number.result c.fits_number.ensures (put_number a.width a.room.now a.number) (not-false c.fits_number.result c.if-not-fits_number.false-raw) c.if-room-width.false c.put_number.new.room c.put_number.ensures
