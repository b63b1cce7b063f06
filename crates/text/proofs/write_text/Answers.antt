-- `text::write_text` meets its contract: what fits, the room, then the bytes. Assumes nothing.
use Rattle.text.proofs.Laws.{text_wide, write_wrong, write_small, write_done}
use Rattle.text.specs.Writing.{fits_text, put_text}
use borrow.Author.Tests.{not-true, not-false}
use native.Mathlib.Omega.{arith}
use mathlib.Core.Path.{sym, ◌∙◌}
use Rattle.text.proofs.write_text.Goals as goal

pub returns-then-not-fits_text : goal.returns-then-not-fits_text
returns-then-not-fits_text c = let a = c.args in write_wrong a.room.now a.width (fits_text a.width a.text.now) c.fits_text.result c.fits_text.ensures (put_text a.room.now a.text.now) (not-true c.fits_text.result c.if-not-fits_text.true-raw)

pub returns-then-room-width : goal.returns-then-room-width
returns-then-room-width c = let a = c.args in write_small a.room.now a.width (fits_text a.width a.text.now) c.fits_text.result c.fits_text.ensures (put_text a.room.now a.text.now) (not-false c.fits_text.result c.if-not-fits_text.false-raw) c.if-room-width.true

pub put_text-requires : goal.put_text-requires
put_text-requires c = let a = c.args in omega (arith, text_wide a.width a.text.now (sym c.fits_text.ensures ∙ not-false c.fits_text.result c.if-not-fits_text.false-raw), c.if-room-width.false)

pub returns : goal.returns
returns c = let a = c.args in write_done a.room.now a.width (fits_text a.width a.text.now) c.fits_text.result c.fits_text.ensures (put_text a.room.now a.text.now) (not-false c.fits_text.result c.if-not-fits_text.false-raw) c.if-room-width.false c.put_text.new.room c.put_text.ensures
