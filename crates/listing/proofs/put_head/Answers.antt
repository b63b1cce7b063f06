-- `listing::put_head` meets its contract: the word fits its eight bytes, and the number stands after it. Assumes nothing.
use native.Mathlib.Omega.{arith}
use Rattle.listing.proofs.StoreLaws.{text_puts, puts_append}
use Rattle.listing.proofs.put_head.Goals as goal

pub returns : goal.returns
returns c =
    puts_append (text_puts c.args.room.now c.args.word.now c.requires.0 (omega (arith, c.requires.1)) c.write_text.ensures.1) c.put_column.ensures
