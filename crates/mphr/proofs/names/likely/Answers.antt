-- `mphr::names::likely` meets its contract: what each test leaves (QuickLaws), and at the end the field at the place. Assumes nothing.
use Rattle.mphr.proofs.QuickLaws.{too_short, too_long, begins_no, at_place}
use Rattle.mphr.proofs.names.likely.Goals as goal

pub returns-then-n-lt9 : goal.returns-then-n-lt9
returns-then-n-lt9 c = too_short c.args.name.now c.if-n-lt9.true

pub returns-then-n-gt30 : goal.returns-then-n-gt30
returns-then-n-gt30 c = too_long c.args.name.now c.if-n-lt9.false c.if-n-gt30.true

pub returns-then-letters-wide-ne1 : goal.returns-then-letters-wide-ne1
returns-then-letters-wide-ne1 c =
    begins_no c.args.name.now c.if-n-lt9.false c.if-n-gt30.false c.letters_of-letters.result c.letters_of-letters.ensures c.wide.result c.wide.ensures.0 c.if-letters-wide-ne1.true

pub returns : goal.returns
returns c =
    rw (c.size_of.ensures, c.byte_of.ensures, c.fields_at.ensures, c.wide-2.ensures.0, c.eight-middle.ensures, c.eight-last.ensures)
    (at_place c.args.name.now c.if-n-lt9.false c.if-n-gt30.false c.letters_of-letters.result c.letters_of-letters.ensures c.wide.result c.wide.ensures.0 c.if-letters-wide-ne1.false)
